-- What is said where reading or writing ends.
use Rattle.std.proofs.Common.{◌≡◌, ◌⊎◌, inl, inr, ⊎_elim, ℕ, ◌≤◌, List, [], ◌∷◌, length, flat_map, Option, Result, Ok, Err, OnOk, IfErr, IsErrOf, refl, sym, ◌∙◌, arith}
use Rattle.std.specs.Global.{Vec}
use Rattle.std.specs.BTreeMap.{BTreeMap}
use Rattle.std.specs.BTreeSet.{BTreeSet}
use Rattle.std.specs.Io.KnownBytes.{Appends}
use Rattle.std.specs.Result.{is_ok}
use Rattle.std.proofs.lemmas.List.{length-map}
use Rattle.dbm_model.specs.Pairs.{Key, Pair}
use Rattle.dbm_fault.specs.Among.{IsAmong}
use Rattle.dbm_fault.specs.declared.engine_fault.EngineFault.{EngineFault}
use Rattle.dbm_fault.specs.declared.engine_fault.EngineFault.TheVariants.{Memory, Write, Db}
use Rattle.dbm_fault.specs.declared.fault.Fault.{Fault}
use Rattle.dbm_fault.specs.declared.fault.Fault.TheVariants.{Device, Broken, NoPass, Damaged}
use Rattle.dbm_fault.specs.declared.fault.Fault.TheVariants as fault
use Rattle.page_io.proofs.Exits.{came}
use Rattle.dbm_engines.specs.Dumping.{bytes_of_keys, bytes_of_pairs, WritesPairs, WritesKeys}

-- the fault is the one that the callee was bound to answer
pub same_exit : {T U : Type 0} (result : Result T EngineFault) (e f : EngineFault) → result ≡ Err e
    → ◌≡◌ {A = Result U EngineFault} (Err e) (Err f) → result ≡ Err f
same_exit {T} {U} result e f exit is = exit ∙ came {T = U} {U = T} (Err e) e refl f is

-- ---- faults

abbrev pub AnyOf : EngineFault → Type 0
AnyOf f =
    IsAmong f (Memory ∷ Write ∷ Db Broken ∷ Db NoPass ∷ Db Device ∷ Db Damaged ∷ Db fault.Memory ∷ [])

abbrev pub AnyOfKeys : EngineFault → Type 0
AnyOfKeys f = IsAmong f (Memory ∷ Write ∷ Db Broken ∷ Db NoPass ∷ Db Device ∷ Db Damaged ∷ [])

-- where a list of keys, and one of pairs, was read
pub of_keys : (f : EngineFault)
    → IsAmong f (Memory ∷ Db Broken ∷ Db NoPass ∷ Db Device ∷ Db Damaged ∷ []) → AnyOfKeys f
of_keys f is = ⊎_elim (λ memory. inl memory) (λ other. inr (inr other)) is

pub of_pairs : (f : EngineFault)
    → IsAmong f (Memory ∷ Db Broken ∷ Db NoPass ∷ Db Device ∷ Db Damaged ∷ Db fault.Memory ∷ [])
    → AnyOf f
of_pairs f is = ⊎_elim (λ memory. inl memory) (λ other. inr (inr other)) is

-- where the first key was read, and the next one, and a content
pub of_beginning : (f : EngineFault) → IsAmong f (Memory ∷ Db Broken ∷ Db Device ∷ Db Damaged ∷ [])
    → IsAmong f (Memory ∷ Db Broken ∷ Db NoPass ∷ Db Device ∷ Db Damaged ∷ [])
of_beginning f is = ⊎_elim (λ memory. inl memory)
    (λ other. ⊎_elim (λ broken. inr (inl broken)) (λ last. inr (inr (inr last))) other) is

pub of_next : (f : EngineFault)
    → IsAmong f (Memory ∷ Db Broken ∷ Db NoPass ∷ Db Device ∷ Db Damaged ∷ [])
    → IsAmong f (Memory ∷ Db Broken ∷ Db NoPass ∷ Db Device ∷ Db Damaged ∷ Db fault.Memory ∷ [])
of_next f (inl is) = inl is
of_next f (inr (inl is)) = inr (inl is)
of_next f (inr (inr (inl is))) = inr (inr (inl is))
of_next f (inr (inr (inr (inl is)))) = inr (inr (inr (inl is)))
of_next f (inr (inr (inr (inr is)))) = inr (inr (inr (inr (inl is))))

pub of_content : (f : EngineFault)
    → IsAmong f (Memory ∷ Db Broken ∷ Db Device ∷ Db Damaged ∷ Db fault.Memory ∷ [])
    → IsAmong f (Memory ∷ Db Broken ∷ Db NoPass ∷ Db Device ∷ Db Damaged ∷ Db fault.Memory ∷ [])
of_content f is = ⊎_elim (λ memory. inl memory)
    (λ other. ⊎_elim (λ broken. inr (inl broken)) (λ last. inr (inr (inr last))) other) is

-- no call for a key lacks memory
pub not_lacking : (f : EngineFault)
    → IsAmong f (Memory ∷ Db Broken ∷ Db NoPass ∷ Db Device ∷ Db Damaged ∷ [])
    → f ≡ Db fault.Memory → ⊥
not_lacking f (inl is) lacks = absurd (let x = sym is ∙ lacks in cc)
not_lacking f (inr (inl is)) lacks = absurd (let x = sym is ∙ lacks in cc)
not_lacking f (inr (inr (inl is))) lacks = absurd (let x = sym is ∙ lacks in cc)
not_lacking f (inr (inr (inr (inl is)))) lacks = absurd (let x = sym is ∙ lacks in cc)
not_lacking f (inr (inr (inr (inr is)))) lacks = absurd (let x = sym is ∙ lacks in cc)

-- ---- what was written

-- what holds where all was written, where a fault of the writer is told as another
pub wrote_well : {E : Type 0} (P : Type 0) (wrote : Result Unit E)
    (result : Result Unit EngineFault) → is_ok result ≡ is_ok wrote → OnOk wrote P → OnOk result P
wrote_well P (Ok x) (Ok y) same p = p
wrote_well P (Err e) (Ok y) same p = cc
wrote_well P wrote (Err f) same p = tt

pub write_or : (Q : EngineFault → Type 0) (result : Result Unit EngineFault)
    → IfErr result (λ f. f ≡ Write) → IfErr result (λ f. (f ≡ Write) ⊎ Q f)
write_or Q (Ok x) is = tt
write_or Q (Err f) is = inl is

pub write_among : (result : Result Unit EngineFault) → IfErr result (λ f. f ≡ Write)
    → IfErr result AnyOf
write_among (Ok x) is = tt
write_among (Err f) is = inr (inl is)

pub write_among_keys : (result : Result Unit EngineFault) → IfErr result (λ f. f ≡ Write)
    → IfErr result AnyOfKeys
write_among_keys (Ok x) is = tt
write_among_keys (Err f) is = inr (inl is)

-- the lines of these pairs, and of these keys
pub writes_pairs : {E : Type 0} (line_of : Pair → List ℕ) (wrote : Result Unit E)
    (pairs : BTreeMap (Vec ℕ) (Vec ℕ)) (most : ℕ) (before after : Option (List ℕ))
    → length pairs.entries ≡ most
    → OnOk wrote (Appends before after (flat_map line_of (bytes_of_pairs pairs)))
    → OnOk wrote (WritesPairs line_of most before after)
writes_pairs line_of (Ok x) pairs most before after bound written = (
  bytes_of_pairs pairs,
  omega (
    arith,
    length-map {B = Pair} pairs.entries (λ (pair : Vec ℕ × Vec ℕ). (pair.0.items, pair.1.items)),
    bound,
  ),
  written,
)
writes_pairs line_of (Err e) pairs most before after bound written = tt

pub writes_keys : {E : Type 0} (line_of : Key → List ℕ) (wrote : Result Unit E)
    (keys : BTreeSet (Vec ℕ)) (most : ℕ) (before after : Option (List ℕ))
    → length keys.keys ≡ most
    → OnOk wrote (Appends before after (flat_map line_of (bytes_of_keys keys)))
    → OnOk wrote (WritesKeys line_of most before after)
writes_keys line_of (Ok x) keys most before after bound written = (
  bytes_of_keys keys,
  omega (arith, length-map keys.keys (λ (key : Vec ℕ). key.items), bound),
  written,
)
writes_keys line_of (Err e) keys most before after bound written = tt

-- no call on the database was refused
pub no_call_refused : (result : Result Unit EngineFault) (fault : Fault)
    → IfErr result (λ e. e ≡ Write) → IsErrOf result (Db fault) → ⊥
no_call_refused (Ok done) fault write is = cc
no_call_refused (Err e) fault write is = cc

-- as many as are counted
pub as_many : (n step most pairs : ℕ) → n ≤ step → step ≤ most → most ≤ n → most ≡ pairs → n ≡ pairs
as_many n step most pairs one two three is = omega (arith, one, two, three, is)

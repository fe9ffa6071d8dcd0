-- How the fields of a handle and of its parts lie in memory. Only what stands under a logic, at
-- the end, assumes `Logic`.
use denote.Laws.{Is, Tells}
use denote.Memory.{lone}
use denote.RawPtr.{ptr_val}
use denote.RattleType.{RattleType}
use denote.Struct.Laws.{RawPtr-plain, bool-plain, lawfuls}
use denote.Struct.Owning.{Owning, shape, fields, to}
use denote.Struct.OwningLaws.{Laws, Tells-lowered}
use denote.Struct.Struct.{Struct, Struct-Lawful, Plains}
use mir.Val.{Val, vstruct, vcons, vnil, vunit, vbool, has_ty, WT}
use seplogic.Ra.Ura.{Ura}
use types.Logic.{Logic}
use types.Match.{live}
use Rattle.core.specs.contracts.option.Option as option
use Rattle.std_alloc.proofs.ResultValues.{and_tt}
use Rattle.std.proofs.Common.{T, [], ◌∷◌, refl, lit<}
use Rattle.std_heap.proofs.Global.TheLaws as heap_laws
use Rattle.std_heap.proofs.Handle.{heap_val, handle as alloc_handle}
use Rattle.std_heap.specs.contracts.Global as heap
use Rattle.std_heap.specs.contracts.GlobalAllocator.TheImpl.{ghosts}
use Rattle.ndbm_c.specs.contracts.handle.Handle as handle
use Rattle.ndbm_c.specs.contracts.handle.Open as open_value
use Rattle.ndbm_c.specs.contracts.parts.Parts as parts
use Rattle.ndbm_c.proofs.handle.Handle.TheLaws as handle_laws
use Rattle.ndbm_c.proofs.handle.Open.TheLaws as open_laws
use Rattle.ndbm_c.proofs.parts.Parts.TheLaws as parts_laws

-- the allocator, which is one value
alloc_is : Is heap.the_row alloc_handle (heap_val ∷ [])
alloc_is = (
  (vstruct (vcons vunit vnil) ∷ [], tt),
  (refl, (((vunit ∷ [], tt), (refl, (refl, tt))), tt)),
)

-- ---- a handle
abbrev pub Held : Owning
Held = handle.the_type

abbrev pub handle_val : handle.the_row.Denot → Val
handle_val h = handle_laws.lowered h

pub handle_is : (h : Held.D) → Is (Struct (shape Held)) (to Held h) (handle_val h ∷ [])
handle_is h = (
  (ptr_val h.at ∷ [], (heap_val ∷ [], (vbool h.is_open ∷ [], tt))),
  (refl, (refl, (alloc_is, (refl, tt)))),
)

pub handle_Tells : Tells handle.the_row (Is handle.the_row) (λ h. handle_val h ∷ [])
handle_Tells = handle_laws.lowers.val_is

pub handle_plain : Plains (fields Held)
handle_plain = (RawPtr-plain, (heap_laws.the_field_plain, (bool-plain, tt)))

-- ---- the parts of a box of what it holds
abbrev pub Boxed : Owning
Boxed = parts.the_type open_value.the_row heap.the_row ghosts

abbrev pub Parted : RattleType
Parted = parts.the_row open_value.the_row heap.the_row ghosts

abbrev pub parts_val : Parted.Denot → Val
parts_val d = vstruct (vcons (ptr_val d.at) (vcons heap_val vnil))

pub parts_is : (d : Parted.Denot) → Is (Struct (shape Boxed)) (to Boxed d) (parts_val d ∷ [])
parts_is d = ((ptr_val d.at ∷ [], (heap_val ∷ [], tt)), (refl, (refl, (alloc_is, tt))))

pub parts_plain : Plains (fields Boxed)
parts_plain = (RawPtr-plain, (heap_laws.the_row_plain, tt))

abbrev parted_laws : Laws Boxed
parted_laws = parts_laws.the_laws open_value.the_row heap.the_row ghosts
    open_laws.the_row_laws heap_laws.the_row_laws heap_laws.the_told

pub parts_Tells : Tells Parted (Is Parted) (λ d. parts_val d ∷ [])
parts_Tells = Tells-lowered Boxed parted_laws

-- ---- that they fit their types
pub alloc_fits : T (has_ty heap_laws.mir heap_val) × WT heap_val
alloc_fits = (tt, ((tt, tt), tt))

pub none_fits : T (has_ty (lone (option.the_row Parted).mir) (live 0 vnil)) × WT (live 0 vnil)
none_fits = (tt, (record { fits = lit< tt }, tt))

module _ {M : Type 1} {𝓤 : Ura M} (𝓛 : Logic 𝓤) where
  pub handle_fits : (h : handle.the_row.Denot)
      → T (has_ty handle_laws.mir (handle_val h)) × WT (handle_val h)
  handle_fits h =
      let lawful = Struct-Lawful 𝓛 (shape Held) (lawfuls 𝓛 Held.parts handle_laws.the_laws) in
      (lawful.typed (to Held h) (handle_val h ∷ []) (handle_is h)).0

  pub parts_fits : (d : Parted.Denot)
      → T (has_ty (lone Parted.mir) (parts_val d)) × WT (parts_val d)
  parts_fits d =
      let lawful = Struct-Lawful 𝓛 (shape Boxed) (lawfuls 𝓛 Boxed.parts parted_laws) in
      (lawful.typed (to Boxed d) (parts_val d ∷ []) (parts_is d)).0

  -- that some of them fit an `Option`
  pub some_fits : (d : Parted.Denot) → let v = live 1 (vcons (parts_val d) vnil) in
      T (has_ty (lone (option.the_row Parted).mir) v) × WT v
  some_fits d =
      let fits = parts_fits d in
      (and_tt _ fits.0, (record { fits = lit< tt }, (fits.1, tt)))

-- Steps on what is owned: a struct of plain fields that owns memory is put together from that
-- memory, and what a handle owns is told at each of its two states. Assumes `Logic`.
use base.Fml.{ftrue, ffalse}
use base.Logic.{never_e}
use denote.Laws.{Is}
use denote.RawPtr.{Ptr}
use denote.Steps.{owned}
use denote.Struct.Owning.{Owning, shape, fields, to, row}
use denote.Struct.Struct.{Struct, Struct-Makes, Plains}
use mir.Val.{Val}
use seplogic.Ra.Ura.{Ura}
use types.Kit.{Goal, Item, Step, step, Seq, ‵, given, ◌$◌, use1, learn, drop, fjoin}
use types.Logic.{Logic}
use Rattle.std.proofs.Common.{T, not, ◌≡◌, List, ◌∷◌, refl, Bool, true, false, Option, Some, None}
use Rattle.std.specs.Box.Ownership.{box_owns}
use Rattle.std.specs.Global.{Global}
use Rattle.std_heap.specs.contracts.GlobalAllocator.TheImpl.{ghosts}
use Rattle.ndbm_c.specs.Handle.{handle_owns}
use Rattle.ndbm_c.specs.contracts.handle.Open.{the_row as Value}

module _ {M : Type 1} {𝓤 : Ura M} {𝓛 : Logic 𝓤} {K : Type 0} {Γ : List (Item 𝓤)}
    {G : Goal 𝓤 𝓛.H} where
  pub struct_in : K → (S : Owning) → Plains (fields S) → (d : S.D) (vs : List Val)
      → Is (Struct (shape S)) (to S d) vs
      → Step K 𝓛 (‵ ((row S).own_val d vs) ∷ Γ) G (‵ (S.heap d) ∷ Γ) G
  struct_in t S plains d vs is = step (λ s.
      owned t (Struct (shape S)) (Is (Struct (shape S))) (Struct-Makes 𝓛 (shape S) plains)
      (to S d) vs is $
      fjoin t $ s)

  -- of what is false anything follows
  none_such : K → Seq K 𝓛 (‵ ffalse ∷ Γ) G
  none_such t = use1 𝓛 (given ⊥ (‵ ftrue)) (never_e 𝓤 _) $ learn t (λ wrong. absurd wrong)

  -- an open handle holds a value, and owns its box
  pub is_opened : K → (alloc : Global) (at : Ptr) (is_open : Bool) (held : Option Value.Denot)
      → T is_open
      → ((x : Value.Denot) → held ≡ Some x
      → Seq K 𝓛 (‵ (box_owns (ghosts.dealloc_token alloc) Value at x) ∷ Γ) G)
      → Seq K 𝓛 (‵ (handle_owns alloc at is_open held) ∷ Γ) G
  is_opened t alloc at true (Some x) opened walk = walk x refl
  is_opened t alloc at true None opened walk = none_such t
  is_opened t alloc at false held opened walk = absurd opened

  -- a closed one holds none, and owns nothing
  pub is_shut : K → (alloc : Global) (at : Ptr) (is_open : Bool) (held : Option Value.Denot)
      → T (not is_open)
      → (held ≡ None → Seq K 𝓛 Γ G)
      → Seq K 𝓛 (‵ (handle_owns alloc at is_open held) ∷ Γ) G
  is_shut t alloc at true held shut walk = absurd shut
  is_shut t alloc at false (Some x) shut walk = none_such t
  is_shut t alloc at false None shut walk = drop t $ walk refl

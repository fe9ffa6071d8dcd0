-- What the walks of `Parts` share: a box and its parts at any value and any allocator.
use base.Fml.{ftrue}
use denote.Param.Laws.{Laws, param_laws}
use denote.RattleType.{RattleType}
use mir.Syntax.{Dict, given}
use mir.Val.{Val}
use seplogic.Ra.Ura.{Ura}
use types.Kit.{Goal, Item, Seq, ‵}
use types.Logic.{Logic}
use Rattle.std.proofs.Common.{◌≡◌, List, [], ◌∷◌}
use Rattle.core.proofs.alloc.Calls.{Al, Fits, handle_tells}
use Rattle.core.specs.declared.alloc.Allocator.{Ghosts}
use Rattle.std_alloc.proofs.BoxSteps.Form as box
use Rattle.std_alloc.proofs.boxed.Box.TheLaws.{the_row_laws}
use Rattle.ndbm_c.specs.contracts.parts.Parts as parts

-- a row as one whose values are one machine value each
abbrev pub alone : (R : RattleType) → Laws R → Al
alone R L = record {
  row = R;
  laws = L;
  g = record { dealloc_token = λ a σ p. ftrue };
  d = given 0;
  drops = given 0;
}

module _ {M : Type 1} {𝓤 : Ura M} {𝓛 : Logic 𝓤} {K : Type 0} {Γ : List (Item 𝓤)}
    {G : Goal 𝓤 𝓛.H} where
  pub one_value : K → (R : RattleType) (L : Laws R) (x : R.Denot) (vs : List Val)
      → ((v : Val) → vs ≡ v ∷ [] → Fits (alone R L) v → Seq K 𝓛 (‵ (R.own_val x (v ∷ [])) ∷ Γ) G)
      → Seq K 𝓛 (‵ (R.own_val x vs) ∷ Γ) G
  one_value t R L = handle_tells (alone R L) t

module _ (T A : RattleType) (LT : Laws T) (LA : Laws A) (g : Ghosts A.Denot)
    (dict glue : Dict) where
  abbrev pub E : box.Bx
  E = record {
    row = T;
    laws = LT;
    al = record { row = A; laws = LA; g = g; d = dict; drops = glue };
  }

  abbrev pub Boxed : RattleType
  Boxed = box.B E

  abbrev pub Parted : RattleType
  Parted = parts.the_row (box.R E) (box.P E) g

  pub boxed_laws : Laws Boxed
  boxed_laws = the_row_laws (box.R E) (box.P E) g (param_laws 0 T LT) (param_laws 1 A LA)

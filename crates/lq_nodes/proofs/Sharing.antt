-- A `&` to an arena is made where one to a node is. Assumes `Logic`.
use mathlib.Core.List.{List, [], ◌∷◌}
use seplogic.Ra.Ura.{Ura}
use mir.Syntax.{Ty}
use mir.Raw.{raw as bare}
use base.Fml.{Lft, Fml, ftrue, Incl}
use base.Fraction.{full_share}
use types.Logic.{Logic}
use denote.RattleType.{RattleType, RowLaws}
use denote.Memory.{lone}
use denote.Param.Laws.{Laws}
use denote.RawPtr.{Ptr, lies_at}
use denote.Sharing.{ShrLaws}
use denote.SharingLaws.{beside_shr_laws, nothing_shr_laws}
use denote.Shares.{Shares-less}
use denote.Struct.Lending.{lent_at, lent_at_shr_laws, Lends-lies, Lends-first, Lends, Lends-both, Lends-nothing}
use Rattle.std.specs.Prelude.{Option, Some, None}
use Rattle.lq_nodes.specs.Ownership.{slot_owns, slots_own, slot_lent, slots_lent}

module _ (R : RattleType) (L : RowLaws R) where
  slot_lent_laws : (p : Ptr) (o : Option R.Denot) → ShrLaws (slot_lent R p o)
  slot_lent_laws p None = nothing_shr_laws
  slot_lent_laws p (Some x) = lent_at_shr_laws R L p x

  pub slots_lent_laws : (ss : List (Ptr × Option R.Denot)) → ShrLaws (slots_lent R ss)
  slots_lent_laws [] = nothing_shr_laws
  slots_lent_laws (s ∷ ss) = beside_shr_laws _ _ (slot_lent_laws s.0 s.1) (slots_lent_laws ss)

module _ {M : Type 1} {𝓤 : Ura M} (𝓛 : Logic 𝓤) (l : Lft) (R : RattleType) (holds : Ty → Ptr → Fml) (L : Laws R) (inc : Incl l R.lives) where
  Lends-slot : (p : Ptr) (o : Option R.Denot) → Lends 𝓛 (slot_owns holds R p o) (slot_lent R p o) l
  Lends-slot p None = Lends-nothing 𝓛 ftrue l
  Lends-slot p (Some x) = Lends-first 𝓛 (lies_at R full_share p x) (holds (bare (lone R.mir)) p) (lent_at R p x) l (Lends-lies 𝓛 R l p x (Shares-less 𝓛 R R.lives l inc (L.shares 𝓛) x))

  pub Lends-slots : (ss : List (Ptr × Option R.Denot)) → Lends 𝓛 (slots_own holds R ss) (slots_lent R ss) l
  Lends-slots [] = Lends-nothing 𝓛 ftrue l
  Lends-slots (s ∷ ss) = Lends-both 𝓛 (slot_owns holds R s.0 s.1) (slots_own holds R ss) (slot_lent R s.0 s.1) (slots_lent R ss) l (Lends-slot s.0 s.1) (Lends-slots ss)

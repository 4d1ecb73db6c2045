-- A `&` to an arena is made where one to a node is. Assumes `Logic`.
use mathlib.Core.List.{[], ◌++◌}
use base.Fml.{Incl-trans}
use contract.BorrowLft.{meet_⊑_left}
use denote.RattleType.{RattleType}
use denote.RawPtr.{RawPtr}
use denote.Param.Laws.{Laws}
use denote.Param.Shared.{copy_shared}
use denote.Struct.Laws.{field_copy}
use denote.Struct.Lending.{of_Lends}
use Rattle.std.specs.contracts.marker.PhantomData as marker
use Rattle.std.specs.declared.alloc.Allocator.{Ghosts}
use Rattle.lq_nodes.specs.contracts.arena.Arena as C
use Rattle.lq_nodes.proofs.arena.Arena.TheLaw.Statement.{statement}
use Rattle.lq_nodes.proofs.Sharing.{slots_lent_laws, Lends-slots}

pub shares : (R B : RattleType) (g : Ghosts B.Denot) (L : Laws R) (K : Laws B) → statement R B g L K
shares R B g L K = of_Lends (C.struct R B g) (C.the_codes R.Denot B.Denot R.coded B.coded (marker.the_row RawPtr).coded) (C.the_heap R B g) (C.the_lent R B g)
    (λ d p. slots_lent_laws R L.shr_laws d.slots) (copy_shared (marker.the_field RawPtr) (field_copy (marker.the_type RawPtr) tt), tt)
    (λ M 𝓤 𝓛 d p.
    Lends-slots 𝓛 (C.the_row R B g).lives R (g.dealloc_token d.alloc) L (Incl-trans (meet_⊑_left (R.lives ++ (B.lives ++ [])) _) (meet_⊑_left R.lives (B.lives ++ []))) d.slots)

use Rattle.std.specs.Prelude.{Bool, Err, IfOk, List, None, Ok, Option, Some, false, if◌then◌else◌, true, ℕ, ◌≡◌}
use Rattle.lq_paths.specs.declared.path.Format.{Format}
use Rattle.lq_paths.specs.Paths.{format_of, is_xml}
use Rattle.lq_sources.specs.Faults.{Loaded, ◌>>=◌}
use Rattle.lq_sources.specs.Walk.{written}
use Rattle.lq_sources.specs.declared.fault.LoadFault.TheVariants.{Fault, TooMany, Xml}
use Rattle.lq_sources.specs.declared.fault.LoadFault.{LoadFault}
use Rattle.lq_sources.specs.declared.fault.What.TheVariants.{UnknownFormat}
use Rattle.lq_sources.proofs.opening.may_open.Goals as goal

-- what a path's ending tells is never that too many files were read
not_many : (is : Bool) (format : Option Format) (path : List ℕ)
    → (let told : Loaded Format = if is then Err (Xml path) else elim format [ None ↦ Err (Fault path UnknownFormat) | Some format ↦ Ok format ] in told) ≡ Err TooMany → ⊥
not_many true format path many = Prim.cc
not_many false None path many = Prim.cc
not_many false (Some format) path many = Prim.cc

ending : (path : List ℕ) → written path ≡ Err TooMany → ⊥
unfolding written
ending path many = not_many (is_xml path) (format_of path) path many

-- where the ending is refused, that is what is told
refused : (w r : Loaded Format) (k : Format → Loaded Format) (fault : LoadFault) → IfOk w (λ format. r ≡ Ok format) → r ≡ Err fault → (w >>= k) ≡ Err TooMany → w ≡ Err TooMany
refused (Err e) r k fault known is many = many
refused (Ok format) r k fault known is many = absurd (other known is) where
  other : r ≡ Ok format → r ≡ Err fault → ⊥
  other ok err = Prim.cc

pub returns-in_err-format-clause-many : goal.returns-in_err-format-clause-many
returns-in_err-format-clause-many c many =
    absurd (ending c.args.path.now (refused (written c.args.path.now) c.written.result _ _ c.written.ensures.known c.in_err-format.was many))

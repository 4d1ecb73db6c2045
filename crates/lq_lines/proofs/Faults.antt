-- A fault that is handed on.
use Rattle.std.proofs.Common.{◌≡◌, Option, None, Result, Err, sym, subst}
use Rattle.lq_lines.specs.File.{Gives}
use Rattle.lq_lines.specs.declared.fault.LinesFault.{LinesFault}
use Rattle.lq_lines.specs.declared.fault.LinesFault.TheVariants.{Usage, OutOfMemory}

pub carried : {A B : Type 0} (meant : Option A) (whole : Option B) (r : Result A LinesFault) (s : Result B LinesFault) (fault : LinesFault)
    → (meant ≡ None → whole ≡ None) → Gives meant r → r ≡ Err fault → s ≡ Err fault → Gives whole s
carried meant whole r s Usage so gives is same = subst (λ q. Gives whole q) (sym same) (so (subst (λ q. Gives meant q) is gives))
carried meant whole r s OutOfMemory so gives is same = subst (λ q. Gives whole q) (sym same) tt

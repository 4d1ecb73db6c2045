use Rattle.std.proofs.Common.{refl}
use Rattle.lq_sqllex.proofs.LexemeSteps.{lexemes_on}
use Rattle.lq_sqllex.proofs.laws.lexemes_go_on.Goals as goal

pub returns : goal.returns
returns c = λ d bytes rest some closed. lexemes_on d _ bytes rest refl closed some

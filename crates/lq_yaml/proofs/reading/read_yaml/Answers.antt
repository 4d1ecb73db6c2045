use Rattle.std.proofs.Common.{rules, refl, sym, inr, Err, IfErr, IfOk, ◌⊎◌, ◌≡◌}
use Rattle.std.specs.Str.{IsUtf8}
use Rattle.lq_yaml.specs.declared.fault.YamlFault.TheVariants.{OutOfMemory}
use Rattle.lq_yaml.specs.File.{lines_of, Blames, IsRead}
use Rattle.lq_yaml.specs.Yaml.{text_tree}
use Rattle.lq_yaml.proofs.Files.{other_tree, utf8, utf8_found, whole}
use Rattle.lq_yaml.proofs.Trees.{ordered}
use Rattle.lq_yaml.proofs.reading.read_yaml.Goals as goal

pub returns-in-Ok-clause-not_utf8 : goal.returns-in-Ok-clause-not_utf8
returns-in-Ok-clause-not_utf8 c =
    let is : IsUtf8 c.args.bytes.now = search rules in
    let err : IfErr c.read_text.result (λ fault. Blames (lines_of c.args.bytes.now) fault) = search rules in
    utf8 c.args.bytes.now (lines_of c.args.bytes.now) c.read_text.result is err

pub returns-in-Err-clause-not_utf8 : goal.returns-in-Err-clause-not_utf8
returns-in-Err-clause-not_utf8 c =
    let bad : ¬ IsUtf8 c.args.bytes.now = search rules in
    (λ e. bad, λ e. refl)

pub returns-in-Ok-clause-order : goal.returns-in-Ok-clause-order
returns-in-Ok-clause-order c =
    let ok : IfOk c.read_text.result (λ node. IsRead (lines_of c.args.bytes.now) node) = search rules in
    ordered (lines_of c.args.bytes.now) c.read_text.result ok

pub returns-in-Ok-clause-whole : goal.returns-in-Ok-clause-whole
returns-in-Ok-clause-whole c node utf r =
    let ok : IfOk c.read_text.result (λ node. IsRead (lines_of c.args.bytes.now) node) = search rules in
    let err : IfErr c.read_text.result (λ fault. Blames (lines_of c.args.bytes.now) fault) = search rules in
    whole (lines_of c.args.bytes.now) c.read_text.result node ok err r

pub returns-in-Err-clause-whole : goal.returns-in-Err-clause-whole
returns-in-Err-clause-whole c node utf r =
    let bad : ¬ IsUtf8 c.args.bytes.now = search rules in
    absurd (bad utf)

pub returns-in-Ok-clause-found : goal.returns-in-Ok-clause-found
returns-in-Ok-clause-found c =
    let is : IsUtf8 c.args.bytes.now = search rules in
    let found : (c.read_text.result ≡ Err OutOfMemory) ⊎ (c.read_text.result ≡ text_tree (lines_of c.args.bytes.now)) = search rules in
    utf8_found c.args.bytes.now c.read_text.result is found

pub returns-in-Err-clause-found : goal.returns-in-Err-clause-found
returns-in-Err-clause-found c =
    let bad : ¬ IsUtf8 c.args.bytes.now = search rules in
    inr (sym (other_tree c.args.bytes.now bad))

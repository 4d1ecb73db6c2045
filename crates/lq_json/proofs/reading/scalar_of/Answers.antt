use Rattle.std.proofs.Common.{◌≡◌, ◌∙◌, ◌∷◌, Some, ap, refl, sym}
use Rattle.json.specs.Json as json
use Rattle.json.specs.Json.{value}
use Rattle.json.specs.Reads.{token_of}
use Rattle.json.specs.Token.{Token}
use Rattle.json.proofs.Grammar.{value_is}
use Rattle.serde_json.specs.Read.{converted}
use Rattle.lq_json.specs.Trees.{tree_from}
use Rattle.lq_json.proofs.Turns.{scalar_read}
use Rattle.lq_tree.specs.declared.node.Node.{Text}
use Rattle.lq_json.proofs.reading.scalar_of.Goals as goal

pub returns-in-Ok : goal.returns-in-Ok
returns-in-Ok c depth old ts first =
    let s = c.in-String.text.now in
    ap (λ us. converted tree_from (value depth us)) first ∙ ap (λ k. converted tree_from (value depth (token_of k ∷ ts))) c.in-String.is
    ∙ scalar_read (Token.string s) (json.string s) _ (λ d us. value_is d (Token.string s ∷ us)) (ap (λ text. Some (Text text)) (sym c.in-Ok.ensures)) depth ts

pub returns-in_ok-node-in-Number : goal.returns-in_ok-node-in-Number
returns-in_ok-node-in-Number c depth old ts first =
    let s = c.in-Number.text.now in
    ap (λ us. converted tree_from (value depth us)) first ∙ ap (λ k. converted tree_from (value depth (token_of k ∷ ts))) c.in-Number.is
    ∙ scalar_read (Token.number s) (json.number s) _ (λ d us. value_is d (Token.number s ∷ us)) c.in_ok-node-in-Number.ensures depth ts

pub returns-in-Bool : goal.returns-in-Bool
returns-in-Bool c depth old ts first =
    let b = c.in-Bool.truth in
    ap (λ us. converted tree_from (value depth us)) first ∙ ap (λ k. converted tree_from (value depth (token_of k ∷ ts))) c.in-Bool.is
    ∙ scalar_read (Token.boolean b) (json.boolean b) _ (λ d us. value_is d (Token.boolean b ∷ us)) refl depth ts

pub returns-in-Null : goal.returns-in-Null
returns-in-Null c depth old ts first =
    ap (λ us. converted tree_from (value depth us)) first ∙ ap (λ k. converted tree_from (value depth (token_of k ∷ ts))) c.in-Null.is ∙ scalar_read Token.null json.null _ (λ d us. value_is d (Token.null ∷ us)) refl depth ts

-- What a catalogue of one table answers.
use Rattle.std.proofs.Common.{ap, refl, sym, ◌∙◌}
use Rattle.std.specs.List.{list_any}
use Rattle.std.specs.Prelude.{List, None, Ok, Some, [], cond, length, map, true, ◌||◌, ◌∷◌, ◌≡◌}
use Rattle.lq_base.specs.Name.{is_named}
use Rattle.lq_base.specs.declared.name.Name.{Name}
use Rattle.lq_model.specs.Catalogue.{Catalogue, Table, is_in}
use Rattle.lq_model.specs.Views.{answer}
use Rattle.lq_model.specs.declared.caller.By.{By}
use Rattle.lq_model.specs.declared.caller.By.TheVariants.{Program}
use Rattle.lq_model.specs.declared.column.Column.{Column}
use Rattle.lq_model.specs.declared.query.Answered.{Answered}
use Rattle.lq_model.specs.declared.query.Query.{Query}
use Rattle.lq_model.specs.declared.query.Wanted.TheVariants as wanted
use Rattle.lq_track.proofs.AllRows.{all_answered, all_of}

pub among_named : (n : Name) (cs : List Column) → list_any (λ (c : Column). is_named n c.name) cs ≡ is_in n (map (λ (c : Column). c.name) cs)
among_named n [] = refl
among_named n (c ∷ cs) = ap (λ b. is_named n c.name || b) (among_named n cs)

abbrev one : Name → Table → Catalogue
one name it = record { tables = (name, it) ∷ []; views = []; sequences = [] }

for_all : (q : Query) → (q.wanted ≡ wanted.All) × (q.test ≡ None) → q ≡ all_of q.table
for_all q all =
    ap (λ w. record { wanted = w; table = q.table; test = q.test }) all.0
    ∙ ap (λ t. record { wanted = wanted.All; table = q.table; test = t }) all.1

-- the whole table, asked by the program
pub asked_whole : (name : Name) (it : Table) (q : Query) (by : By) (a : Answered) → by ≡ Program → is_named q.table name ≡ true → (q.wanted ≡ wanted.All) × (q.test ≡ None)
    → a ≡ record { columns = length it.columns; rows = it.rows } → answer by q (one name it) ≡ Ok a
asked_whole name it q by a program named all is =
    ap (λ b. answer b q (one name it)) program ∙ ap (λ p. answer Program p (one name it)) (for_all q all)
    ∙ all_answered (one name it) q.table it (ap (λ b. cond b (Some it) None) named) ∙ ap (λ x. Ok x) (sym is)

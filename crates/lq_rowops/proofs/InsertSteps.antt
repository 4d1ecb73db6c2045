-- The steps of an INSERT.
use Rattle.std.proofs.Common.{Err, List, Ok, Result, ap, arith, false, is_none, leb, nat_le, not, refl, subst, suc, sym, tests, ℕ, ◌∙◌, ◌≡◌}
use Rattle.lq_base.specs.declared.dialect.Dialect.{Dialect}
use Rattle.lq_base.specs.declared.literal.Literal.{Literal}
use Rattle.lq_base.specs.declared.name.Name.{Name}
use Rattle.lq_base.specs.declared.value.Value.{Value}
use Rattle.lq_chain.specs.History.{History}
use Rattle.lq_model.specs.Catalogue.{Catalogue, Table, table_of, the_table}
use Rattle.lq_model.specs.Rows.{stated}
use Rattle.lq_model.specs.declared.caller.By.TheVariants.{Program}
use Rattle.lq_model.specs.declared.column.Column.{Column}
use Rattle.lq_rows.specs.Stored.{Answers, Means}
use Rattle.lq_rows.proofs.Continued.{stays}
use Rattle.lq_rowops.specs.InsertTests.{inserted, new_row, row_meant, PlansRow}
use Rattle.lq_rows.specs.declared.fault.RunFault.{RunFault}
use Rattle.lq_rows.specs.declared.fault.RunFault.TheVariants.{OutOfMemory, Refused}
use Rattle.lq_rowops.proofs.InsertDecides.{insert_bad}

pub bad_plan : (d : Dialect) (t : Name) (ns : List Name) (ls : List Literal) (parts : History Catalogue) (it : Table) (fault : RunFault) → the_table parts.now t ≡ it → is_none (table_of parts.now t) ≡ false
    → PlansRow d it ns ls (Err fault) → Answers (inserted Program d t ns ls parts.now) parts parts (Err fault)
bad_plan d t ns ls parts it (Refused r) is there plans = (insert_bad d t ns ls parts.now r there (subst (λ x. new_row x ns ls ≡ Err r) (sym is) plans), refl)
bad_plan d t ns ls parts it OutOfMemory is there plans = stays parts

meant_same : (it : Table) (ns : List Name) (ls : List Literal) (cs : List Column) (next : ℕ) (all : List Name) → cs ≡ it.columns → next ≡ it.next → all ≡ stated it ns → row_meant cs next ns all ls ≡ row_meant it.columns it.next ns (stated it ns) ls
meant_same it ns ls cs next all a b e = ap (λ x. row_meant x next ns all ls) a ∙ ap (λ n. row_meant it.columns n ns all ls) b ∙ ap (λ names. row_meant it.columns it.next ns names ls) e

pub bad_row : (d : Dialect) (it : Table) (ns : List Name) (ls : List Literal) (fault : RunFault) (cs : List Column) (next : ℕ) (all : List Name) → cs ≡ it.columns → next ≡ it.next → all ≡ stated it ns
    → (let r : Result (List Value) RunFault = Err fault in Means (row_meant cs next ns all ls) r) → PlansRow d it ns ls (Err fault)
unfolding new_row
bad_row d it ns ls (Refused r) cs next all a b e means = sym (meant_same it ns ls cs next all a b e) ∙ means
bad_row d it ns ls OutOfMemory cs next all a b e means = tt

pub good_row : (it : Table) (ns : List Name) (ls : List Literal) (row : List Value) (cs : List Column) (next : ℕ) (all : List Name) → cs ≡ it.columns → next ≡ it.next → all ≡ stated it ns → row_meant cs next ns all ls ≡ Ok row → new_row it ns ls ≡ Ok row
unfolding new_row
good_row it ns ls row cs next all a b e means = sym (meant_same it ns ls cs next all a b e) ∙ means

pub full_is : (n : ℕ) → leb 100000 n ≡ not (nat_le (suc n) 100000)
full_is n = grind (arith, tests)

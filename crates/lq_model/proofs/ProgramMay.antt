-- What a user's statement does, the program's does too.
use Rattle.std.proofs.Common.{◌≡◌, ◌∙◌, ℕ, Bool, true, false, ◌||◌, ◌&&◌, not, [], ◌∷◌, Ok, None, Some, is_some, refl, sym, ap}
use Rattle.lq_base.specs.declared.dialect.Dialect.{Dialect}
use Rattle.lq_model.specs.Catalogue.{Catalogue, the_table, view_of, inner_names, placed, repeats}
use Rattle.lq_model.specs.Tables.{new_table, lists_twice}
use Rattle.lq_model.specs.NameSpaces.{is_taken, are_clashing, takes_lock_key, key_taken, unique_taken, index_taken}
use Rattle.lq_model.specs.Views.{listed}
use Rattle.lq_model.specs.Plan.{Plan, decide}
use Rattle.lq_model.specs.Step.{plan, step}
use Rattle.lq_model.specs.declared.caller.By.{By}
use Rattle.lq_model.specs.declared.caller.By.TheVariants.{Program, User}
use Rattle.lq_model.specs.declared.statement.Statement.{Statement}
use Rattle.lq_model.specs.declared.statement.Statement.TheVariants.{AddColumn, AddForeignKey, AddPrimaryKey, AddUnique, CreateIndex, CreateSequence, CreateTable, CreateView, Delete, DropColumn, DropConstraint, DropDefault, DropForeignKey, DropIndex, DropNotNull, DropPrimaryKey, DropSequence, DropTable, DropUnique, DropView, Insert, Modify, RenameColumn, RenameSequence, RenameTable, RenameView, SetDefault, SetNotNull, Update}
use Rattle.lq_model.proofs.Decide.{accepted}
use Rattle.lq_model.proofs.Lists.{or_false, or_left, or_right}

-- two plans that differ in what is asked of a user alone
pub record IsWeaker (p q : Plan) : Type 0 where
  pub reserved : q.reserved ≡ false
  pub exists : p.exists ≡ false → q.exists ≡ false
  pub rest : q ≡ record p { reserved = q.reserved; exists = q.exists }

weaker_same : (p q : Plan) → IsWeaker p q → p.reserved ≡ false → p.exists ≡ false → q ≡ p
weaker_same p q w r e =
    let a : q.reserved ≡ p.reserved = w.reserved ∙ sym r in
    let b : q.exists ≡ p.exists = w.exists e ∙ sym e in
    w.rest ∙ rw (a, b) refl

weaker : (p q : Plan) (x : Catalogue × ℕ) → decide p ≡ Ok x → IsWeaker p q → decide q ≡ Ok x
weaker p q x h w = let is = accepted p x.0 x.1 h in ap decide (weaker_same p q w is.reserved is.exists) ∙ h

same : (p q : Plan) → q ≡ record p { reserved = false } → IsWeaker p q
same p q e = record { reserved = ap (λ (p : Plan). p.reserved) e; exists = λ x. ap (λ (p : Plan). p.exists) e ∙ x; rest = rw e refl }

-- a test of a user alone, in the last place
drop_last : (a b : Bool) → (a || b) ≡ false → (a || false) ≡ false
drop_last a b e = or_false a false (or_left a b e) refl

-- and before others
drop_middle : (a b c : Bool) → (a || (b || c)) ≡ false → (a || (false || c)) ≡ false
drop_middle a b c e = or_false a c (or_left a (b || c) e) (or_right b c (or_right a (b || c) e))

drop_third : (a b c e : Bool) → (a || (b || (c || e))) ≡ false → (a || (b || (false || e))) ≡ false
drop_third a b c e h = or_false a (b || e) (or_left a (b || (c || e)) h) (drop_middle b c e (or_right a (b || (c || e)) h))

drop_inner : (n a b r : Bool) → ((n && (a || b)) || r) ≡ false → ((n && (a || false)) || r) ≡ false
drop_inner true a b r h = or_false (a || false) r (drop_last a b (or_left (a || b) r h)) (or_right (a || b) r h)
drop_inner false a b r h = h

by_user : (d : Dialect) (s : Statement) (c : Catalogue) → IsWeaker (plan User d s c) (plan Program d s c)
by_user d (CreateTable t defs key uniques foreign) c =
    let it = new_table defs key uniques foreign in
    record { reserved = refl; exists = λ e. drop_third (is_taken d t c) (are_clashing d t it c) (takes_lock_key User d (t ∷ placed t (inner_names it))) (lists_twice it) e; rest = refl }
by_user d (DropTable t) c = same _ _ refl
by_user d (RenameTable t to) c = record { reserved = refl; exists = λ e. drop_last _ _ e; rest = refl }
by_user d (AddColumn t def) c = same _ _ refl
by_user d (DropColumn t n) c = same _ _ refl
by_user d (RenameColumn t n to) c = same _ _ refl
by_user d (SetNotNull t n) c = same _ _ refl
by_user d (DropNotNull t n) c = same _ _ refl
by_user d (Modify t n k nullable) c = same _ _ refl
by_user d (SetDefault t n l) c = same _ _ refl
by_user d (DropDefault t n) c = same _ _ refl
by_user d (AddPrimaryKey t k) c =
    let it = the_table c t in
    record { reserved = refl; exists = λ e. drop_third (is_some it.key) (key_taken d t it k.name c) (takes_lock_key User d (placed t (k.name ∷ []))) (repeats k.columns) e; rest = refl }
by_user d (AddUnique t u) c = record { reserved = refl; exists = λ e. drop_middle (unique_taken d t (the_table c t) u.name c) (takes_lock_key User d (placed t (u.name ∷ []))) (repeats u.columns) e; rest = refl }
by_user d (AddForeignKey t f) c = same _ _ refl
by_user d (DropConstraint t n) c = same _ _ refl
by_user d (DropPrimaryKey t) c = same _ _ refl
by_user d (DropUnique t n) c = same _ _ refl
by_user d (DropForeignKey t n) c = same _ _ refl
by_user d (CreateIndex t i) c = record { reserved = refl; exists = λ e. drop_middle (index_taken d t (the_table c t) i.name c) (takes_lock_key User d (placed t (i.name ∷ []))) (repeats i.columns) e; rest = refl }
by_user d (DropIndex n None) c = same _ _ refl
by_user d (DropIndex n (Some t)) c = same _ _ refl
by_user d (CreateView v q replace) c =
    record { reserved = refl; exists = λ e. drop_inner (not (replace && is_some (view_of c v))) (is_taken d v c) (takes_lock_key User d (v ∷ [])) (repeats (listed q.wanted (the_table c q.table).columns)) e; rest = refl }
by_user d (DropView v) c = same _ _ refl
by_user d (RenameView v to) c = record { reserved = refl; exists = λ e. drop_last _ _ e; rest = refl }
by_user d (CreateSequence s start size) c = record { reserved = refl; exists = λ e. drop_last _ _ e; rest = refl }
by_user d (DropSequence s) c = same _ _ refl
by_user d (RenameSequence s to) c = record { reserved = refl; exists = λ e. drop_last _ _ e; rest = refl }
by_user d (Insert t ns ls) c = same _ _ refl
by_user d (Update t sets test) c = same _ _ refl
by_user d (Delete t test) c = same _ _ refl

pub by_program : (by : By) (d : Dialect) (s : Statement) (c : Catalogue) (x : Catalogue × ℕ) → step by d s c ≡ Ok x → step Program d s c ≡ Ok x
by_program Program d s c x h = h
by_program User d s c x h = weaker (plan User d s c) (plan Program d s c) x h (by_user d s c)

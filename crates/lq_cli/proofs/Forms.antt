-- A command of options is one whose matches and faults clap states.
use Rattle.std.proofs.Common.{◌≡◌, ◌∙◌, ℕ, Bool, true, false, refl, ap, ap₂, List, [], ◌∷◌, ◌++◌, map, append_assoc, take, length, get_or, ◌+◌, ◌<◌, Bor}
use Rattle.std.proofs.lemmas.List.{map_more}
use Rattle.std.specs.List.{list_all, list_any}
use Rattle.clap.specs.Walk.{Rule, Text, is_early_multiple}
use Rattle.clap.specs.Simple.{App, filled_from, with_rule}
use Rattle.clap.specs.Faults.{is_simple_and_free}
use Rattle.lq_cli.specs.Options.{define_rules, rules_of, command_of}
use Rattle.lq_option.specs.Rules.{option, define}
use Rattle.lq_cli.specs.Table.{takes}

pub command_of-more : (rules : List Rule) (r : Rule) → with_rule (command_of rules) r ≡ command_of (rules ++ r ∷ [])
unfolding command_of
command_of-more rules r = refl

map-push : (b : Bool) (names : List Text) (n : Text) → map (option b) (names ++ n ∷ []) ≡ map (option b) names ++ option b n ∷ []
map-push b [] n = refl
map-push b (m ∷ ns) n = ap (λ rs. option b m ∷ rs) (map-push b ns n)

-- one more name
pub option_step : (b : Bool) (done : List Rule) (xs : List (Bor Text)) (i : ℕ) (d : Bor Text) → i < length xs
    → with_rule (command_of (done ++ map (option b) (map (λ w. w.now) (take i xs)))) (option b (get_or xs i d).now) ≡ command_of (done ++ map (option b) (map (λ w. w.now) (take (i + 1) xs)))
option_step b done xs i d h =
    let now : Bor Text → Text = λ w. w.now in
    let more = map_more now xs i d h in
    rw (command_of-more, more, map-push b (map now (take i xs)) (get_or xs i d).now) (ap command_of (append_assoc done _ _))

-- a loop over names
pub next_option : (old new : App) (b : Bool) (done : List Rule) (xs : List (Bor Text)) (i : ℕ) (d : Bor Text) → i < length xs
    → new ≡ with_rule old (option b (get_or xs i d).now) → old ≡ command_of (done ++ map (option b) (map (λ w. w.now) (take i xs)))
    → new ≡ command_of (done ++ map (option b) (map (λ w. w.now) (take (i + 1) xs)))
next_option old new b done xs i d h adds was = adds ∙ ap (λ a. with_rule a (option b (get_or xs i d).now)) was ∙ option_step b done xs i d h

-- and one more at the end
pub last_define : (old new : App) (rule : Rule) (rules : List Rule) → new ≡ with_rule old rule → rule ≡ define → old ≡ command_of rules
    → new ≡ command_of (rules ++ define_rules true)
last_define old new rule rules adds is was = adds ∙ ap₂ with_rule was is ∙ command_of-more rules define

raw_simple : (b : Bool) (names : List Text) (rest : List Rule) → list_all (λ (a : Rule). a.is_simple) (map (option b) names ++ rest) ≡ list_all (λ (a : Rule). a.is_simple) rest
raw_simple b [] rest = refl
raw_simple b (n ∷ ns) rest = raw_simple b ns rest

all_simple : (b : Bool) (names : List Text) (rest : List Rule) (i : ℕ) → list_all (λ (a : Rule). a.is_simple) (filled_from i (map (option b) names ++ rest)) ≡ list_all (λ (a : Rule). a.is_simple) (filled_from i rest)
all_simple b [] rest i = refl
all_simple b (n ∷ ns) rest i = all_simple b ns rest i

all_free : (b : Bool) (names : List Text) (rest : List Rule) (i : ℕ) → list_all (λ (a : Rule). a.is_free) (filled_from i (map (option b) names ++ rest)) ≡ list_all (λ (a : Rule). a.is_free) (filled_from i rest)
all_free b [] rest i = refl
all_free b (n ∷ ns) rest i = all_free b ns rest i

none_early : (b : Bool) (names : List Text) (rest : List Rule) (i k : ℕ) → list_any (is_early_multiple k) (filled_from i (map (option b) names ++ rest)) ≡ list_any (is_early_multiple k) (filled_from i rest)
none_early b [] rest i k = refl
none_early b (n ∷ ns) rest i k = none_early b ns rest i k

simple_raw : (r o : List Text) (d : Bool) → list_all (λ (a : Rule). a.is_simple) (rules_of (takes r o d)) ≡ true
simple_raw r o true = rw (append_assoc (map (option true) r) (map (option false) o) (define_rules true), raw_simple true r, raw_simple false o) refl
simple_raw r o false = rw (append_assoc (map (option true) r) (map (option false) o) (define_rules false), raw_simple true r, raw_simple false o) refl

simple_filled : (r o : List Text) (d : Bool) → list_all (λ (a : Rule). a.is_simple) (filled_from 1 (rules_of (takes r o d))) ≡ true
simple_filled r o true = rw (append_assoc (map (option true) r) (map (option false) o) (define_rules true), all_simple true r, all_simple false o) refl
simple_filled r o false = rw (append_assoc (map (option true) r) (map (option false) o) (define_rules false), all_simple true r, all_simple false o) refl

free_filled : (r o : List Text) (d : Bool) → list_all (λ (a : Rule). a.is_free) (filled_from 1 (rules_of (takes r o d))) ≡ true
free_filled r o true = rw (append_assoc (map (option true) r) (map (option false) o) (define_rules true), all_free true r, all_free false o) refl
free_filled r o false = rw (append_assoc (map (option true) r) (map (option false) o) (define_rules false), all_free true r, all_free false o) refl

early_filled : (r o : List Text) (d : Bool) (k : ℕ) → list_any (is_early_multiple k) (filled_from 1 (rules_of (takes r o d))) ≡ false
early_filled r o true k = rw (append_assoc (map (option true) r) (map (option false) o) (define_rules true), none_early true r, none_early false o) refl
early_filled r o false k = rw (append_assoc (map (option true) r) (map (option false) o) (define_rules false), none_early true r, none_early false o) refl

pub is_simple_and_free-command_of : (r o : List Text) (d : Bool) → is_simple_and_free (command_of (rules_of (takes r o d))) ≡ true
unfolding command_of
is_simple_and_free-command_of r o d = rw (simple_raw r o d, simple_filled r o d, free_filled r o d, early_filled r o d) refl

pub is_simple_and_free_by : (app : App) (r o : List Text) (d : Bool) → app ≡ command_of (rules_of (takes r o d)) → is_simple_and_free app ≡ true
is_simple_and_free_by app r o d is = ap is_simple_and_free is ∙ is_simple_and_free-command_of r o d

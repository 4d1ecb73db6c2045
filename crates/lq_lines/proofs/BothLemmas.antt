-- The two parts of a file, from the slices of its lines before and behind the line `steps`.
use Rattle.std.proofs.Common.{◌≡◌, ◌∙◌, ◌<◌, ◌+◌, ◌-◌, ℕ, List, length, map, take, drop, Option, Some, None, Bor, refl, sym, ap, arith}
use Rattle.std.proofs.lemmas.List.{drop-map, length-map, length-take-le, take-map, take_rest}
use Rattle.lq_cli.specs.Options.{each}
use Rattle.lq_cli.specs.declared.line.Line.{Line}
use Rattle.lq_lines.specs.File.{command_of, both_of, steps_of}

pub counted : (lines : List (Bor (List ℕ))) (place : ℕ) → place < length lines → length (take place (map (λ line. line.now) lines)) ≡ place
counted lines place lt = length-take-le place (map (λ line. line.now) lines) (rw (length-map lines (λ (line : Bor (List ℕ)). line.now)) (omega arith))

cut_before : (url : List ℕ) (lines : List (Bor (List ℕ))) (place : ℕ) (found : Option (List Line))
    → each (command_of url) (map (λ line. line.now) (take place lines)) ≡ found
    → each (command_of url) (take place (map (λ line. line.now) lines)) ≡ found
cut_before url lines place found is = ap (each (command_of url)) (take-map (λ line. line.now) place lines) ∙ is

cut_behind : (lines : List (Bor (List ℕ))) (place : ℕ) (found : Option (List ℕ)) → place < length lines
    → steps_of place (map (λ line. line.now) (take (length lines - (place + 1)) (drop (place + 1) lines))) ≡ found
    → steps_of (length (take place (map (λ line. line.now) lines))) (drop (place + 1) (map (λ line. line.now) lines)) ≡ found
cut_behind lines place found lt is =
    ap (λ n. steps_of n (drop (place + 1) (map (λ line. line.now) lines))) (counted lines place lt)
    ∙ (ap (steps_of place) (drop-map (λ line. line.now) (place + 1) lines)
    ∙ (ap (λ (rest : List (Bor (List ℕ))). steps_of place (map (λ line. line.now) rest)) (sym (take_rest lines (place + 1))) ∙ is))

pub no_commands : (url : List ℕ) (lines : List (Bor (List ℕ))) (place : ℕ)
    → each (command_of url) (map (λ line. line.now) (take place lines)) ≡ None
    → both_of url (take place (map (λ line. line.now) lines)) (drop (place + 1) (map (λ line. line.now) lines)) ≡ None
unfolding both_of
no_commands url lines place none = rw (cut_before url lines place None none) refl

pub no_steps : (url : List ℕ) (lines : List (Bor (List ℕ))) (place : ℕ) (made : List Line) → place < length lines
    → each (command_of url) (map (λ line. line.now) (take place lines)) ≡ Some made
    → steps_of place (map (λ line. line.now) (take (length lines - (place + 1)) (drop (place + 1) lines))) ≡ None
    → both_of url (take place (map (λ line. line.now) lines)) (drop (place + 1) (map (λ line. line.now) lines)) ≡ None
unfolding both_of
no_steps url lines place made lt commands none = rw (cut_before url lines place (Some made) commands, cut_behind lines place None lt none) refl

pub both_are : (url : List ℕ) (lines : List (Bor (List ℕ))) (place : ℕ) (made : List Line) (steps : List ℕ) → place < length lines
    → each (command_of url) (map (λ line. line.now) (take place lines)) ≡ Some made
    → steps_of place (map (λ line. line.now) (take (length lines - (place + 1)) (drop (place + 1) lines))) ≡ Some steps
    → both_of url (take place (map (λ line. line.now) lines)) (drop (place + 1) (map (λ line. line.now) lines)) ≡ Some (record { lines = made; steps = steps })
unfolding both_of
both_are url lines place made steps lt commands numbers = rw (cut_before url lines place (Some made) commands, cut_behind lines place (Some steps) lt numbers) refl

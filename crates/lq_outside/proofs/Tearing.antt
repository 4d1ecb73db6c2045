-- A write that was cut short is also one of a longer range.
use Rattle.std.proofs.Common.{◌≡◌, ℕ, ◌+◌, ◌-◌, ◌≤◌, List, length, take, drop, sym, ap, ◌∙◌, arith}
use Rattle.std.proofs.lemmas.List.{drop-drop, length-take}
use Rattle.lq_outside.specs.Crash.{Torn, Crashes, Goes}

drop_more : (at n more : ℕ) (bytes : List ℕ) → n ≤ more → drop (more - n) (drop (at + n) bytes) ≡ drop (at + more) bytes
drop_more at n more bytes le =
    let places : at + n + (more - n) ≡ at + more = omega (arith, le) in
    drop-drop (more - n) (at + n) bytes ∙ ap (λ k. drop k bytes) places

pub torn_wider : (at n more : ℕ) (before after : List ℕ) → Torn at n before after → n ≤ more → Torn at more before after
torn_wider at n more before after torn le = record {
  front = torn.front;
  back = sym (drop_more at n more after le) ∙ (ap (drop (more - n)) torn.back ∙ drop_more at n more before le);
  no_shorter = torn.no_shorter;
  no_longer = let short = torn.no_longer in grind (arith, short);
}

pub goes_wider : (at n more : ℕ) (before now : Crashes) → Goes (Torn at n) before now → n ≤ more → Goes (Torn at more) before now
goes_wider at n more before now goes le = record {
  honest = goes.honest;
  later = goes.later;
  follows = λ honest c left. let cut = goes.follows honest c left in (cut.0, cut.1, torn_wider at n more cut.0 c cut.2 le);
  keeps = goes.keeps;
  nothing_else = goes.nothing_else;
}

pub front_shorter : (n : ℕ) (bytes : List ℕ) → length (take n bytes) ≤ length bytes
front_shorter n bytes = omega (arith, length-take n bytes)

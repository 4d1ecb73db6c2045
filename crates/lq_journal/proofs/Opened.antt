-- The state of a journal after it was loaded, and after its header was written.
use Rattle.std.proofs.Common.{◌≡◌, ◌+◌, ◌≤◌, inl, ℕ, Bool, true, false, List, [], ◌∷◌, ◌++◌, length, Ok, Option, None, Some, IfSome, refl, sym, ◌∙◌, ap, subst, arith, length-append}
use Rattle.std.specs.Option.{option_map}
use Rattle.std.proofs.lemmas.List.{append-nil, drop_all}
use Rattle.lq_base.specs.declared.dialect.Dialect.{Dialect}
use Rattle.lq_outside.specs.Crash.{written, Torn, Tears, Crashes, IsSound, LeavesOnly, Half, Settled}
use Rattle.lq_outside.proofs.Moments.{started, weaker}
use Rattle.lq_journal.specs.declared.journal.Journal.{Journal}
use Rattle.lq_journal.specs.declared.reading.Found.{Found}
use Rattle.lq_frames.specs.declared.entry.Body.{Body}
use Rattle.lq_frames.specs.Body.{header, frames, journal_of, StandsForSame, StandsForSameOrMore, Holds, Stands}
use Rattle.lq_journal.specs.Reading.{FoundOn, IsRead}
use Rattle.lq_journal.specs.State.{dialect_of, limit_of, used_of, is_prepared, IsLoaded, IsReady}
use Rattle.lq_frames.proofs.Appended.{header-length}
use Rattle.lq_journal.proofs.Entries.{short}

used_within : (prepared : Bool) (dialect : Dialect) (limit used : ℕ) (bytes : List ℕ) → Stands prepared dialect limit used bytes → 17 ≤ limit → used ≤ limit
used_within true dialect limit used bytes stands least =
    let holds = stands.1 in
    let within = holds.within in
    let place = holds.place in
    omega (arith, place, within, ap length holds.is, header-length dialect, length-append (header dialect) (frames stands.0), length-append (header dialect ++ frames stands.0) (holds.gate ∷ holds.tail))
used_within false dialect limit used bytes stands least = omega (arith, stands.0, least)

on_told : (told : Option (List ℕ)) (bytes : List ℕ) (P : List ℕ → Type 0) → IfSome told (λ before. before ≡ bytes) → P bytes → IfSome told P
on_told None bytes P is p = tt
on_told (Some before) bytes P is p = subst P (sym is) p

pub found_entries : (dialect : Dialect) (limit : ℕ) (told : Option (List ℕ)) (found : Found) → FoundOn dialect limit told found → IfSome told (λ bytes. IsRead dialect limit bytes found.entries found.used)
found_entries dialect limit told found on = on_told told on.bytes (λ bytes. IsRead dialect limit bytes found.entries found.used) on.are on.is.read

pub found_loaded : {D : Type 0} (dialect : Dialect) (limit : ℕ) (told : Option (List ℕ)) (found : Found) (disk : D) → FoundOn dialect limit told found → 8192 ≤ limit → limit ≤ 268435456
    → IsLoaded told (record { disk = disk; dialect = dialect; limit = limit; used = found.used; prepared = found.prepared })
found_loaded dialect limit told found disk on least most =
    let used_is = on.is.read.used_is in
    record {
      limit_least = least;
      limit_most = most;
      used_least = omega (arith, used_is);
      used_most = used_within found.prepared dialect limit found.used on.bytes on.is.stands (omega (arith, least));
      stands = on_told told on.bytes (Stands found.prepared dialect limit found.used) on.are on.is.stands;
    }

pub ready_stands : {D : Type 0} (told : Option (List ℕ)) (journal : Journal D) → IsReady told journal → IfSome told (Stands true (dialect_of journal) (limit_of journal) (used_of journal))
ready_stands told journal ready = subst (λ p. IfSome told (Stands p (dialect_of journal) (limit_of journal) (used_of journal))) ready.prepared ready.loaded.stands

pub unprepared_stands : {D : Type 0} (told : Option (List ℕ)) (journal : Journal D) → IsLoaded told journal → is_prepared journal ≡ false → IfSome told (Stands false (dialect_of journal) (limit_of journal) (used_of journal))
unprepared_stands told journal loaded is = subst (λ p. IfSome told (Stands p (dialect_of journal) (limit_of journal) (used_of journal))) is loaded.stands

-- the header and a closed gate are a journal without entries
fresh_written : (dialect : Dialect) (fresh before : List ℕ) → fresh ≡ header dialect ++ 0 ∷ [] → length before ≤ 17 → written 0 fresh before ≡ fresh
fresh_written dialect fresh before is few =
    let size : length fresh ≡ 17 = omega (arith, ap length is, length-append (header dialect) (0 ∷ []), header-length dialect) in
    ap (λ (l : List ℕ). fresh ++ l) (drop_all (0 + length fresh) before (omega (arith, size, few))) ∙ append-nil fresh

fresh_holds : (dialect : Dialect) (limit : ℕ) (fresh : List ℕ) → fresh ≡ header dialect ++ 0 ∷ [] → 17 ≤ limit → Holds dialect limit [] 17 fresh
fresh_holds dialect limit fresh is least = record {
  gate = 0;
  tail = [];
  is = is ∙ ap (λ (l : List ℕ). l ++ 0 ∷ []) (sym (append-nil (header dialect)));
  closed = λ e. absurd (omega (arith, e));
  place = refl;
  whole = tt;
  within = omega (arith, least, ap length is, length-append (header dialect) (0 ∷ []), header-length dialect);
}

pub fresh_ready : (dialect : Dialect) (limit used : ℕ) (fresh : List ℕ) (told after : Option (List ℕ)) → fresh ≡ header dialect ++ 0 ∷ [] → 17 ≤ limit → IfSome told (Stands false dialect limit used)
    → after ≡ option_map (written 0 fresh) told → IfSome after (Stands true dialect limit used)
fresh_ready dialect limit used fresh None after fresh_is least stands is = subst (λ t. IfSome t (Stands true dialect limit used)) (sym is) tt
fresh_ready dialect limit used fresh (Some before) after fresh_is least stands is =
    subst (λ t. IfSome t (Stands true dialect limit used)) (sym (is ∙ ap Some (fresh_written dialect fresh before fresh_is stands.1)))
    ([], subst (λ n. Holds dialect limit [] n fresh) (sym stands.0) (fresh_holds dialect limit fresh fresh_is least))

-- the entries stay what they are while the header is written
torn_short : (n : ℕ) (before c : List ℕ) → n ≤ 17 → length before ≤ 17 → Torn 0 n before c → length c ≤ 17
torn_short n before c n_is few torn = let most = torn.no_longer in omega (arith, most, n_is, few)

fresh_length : (dialect : Dialect) (fresh : List ℕ) → fresh ≡ header dialect ++ 0 ∷ [] → length fresh ≤ 17
fresh_length dialect fresh is = omega (arith, ap length is, length-append (header dialect) (0 ∷ []), header-length dialect)

same_short : (dialect : Dialect) (limit : ℕ) (before c : List ℕ) → 17 ≤ limit → length before ≤ 17 → length c ≤ 17 → journal_of dialect limit c ≡ journal_of dialect limit before
same_short dialect limit before c least few short_c =
    short dialect limit c (omega (arith, least, short_c)) short_c ∙ sym (short dialect limit before (omega (arith, least, few)) few)

pub fresh_torn : (dialect : Dialect) (limit used : ℕ) (fresh : List ℕ) (told after : Option (List ℕ)) → fresh ≡ header dialect ++ 0 ∷ [] → 17 ≤ limit → IfSome told (Stands false dialect limit used)
    → Tears 0 (length fresh) told after → option_map (journal_of dialect limit) after ≡ option_map (journal_of dialect limit) told
fresh_torn dialect limit used fresh None after fresh_is least stands torn = ap (option_map (journal_of dialect limit)) torn
fresh_torn dialect limit used fresh (Some before) after fresh_is least stands torn =
    ap (option_map (journal_of dialect limit)) torn.1
    ∙ ap Some (same_short dialect limit before torn.0 least stands.1 (torn_short (length fresh) before torn.0 (fresh_length dialect fresh fresh_is) stands.1 torn.2))

pub fresh_moment : (dialect : Dialect) (limit used : ℕ) (fresh : List ℕ) (told : Option (List ℕ)) (first last : Crashes) → fresh ≡ header dialect ++ 0 ∷ [] → 17 ≤ limit → IfSome told (Stands false dialect limit used)
    → Settled told first → LeavesOnly first last (Half first.leaves (Torn 0 (length fresh)))
    → IfSome told (λ before. LeavesOnly first last (StandsForSame dialect limit (journal_of dialect limit before)))
fresh_moment dialect limit used fresh None first last fresh_is least stands settled leaves = tt
fresh_moment dialect limit used fresh (Some before) first last fresh_is least stands settled leaves =
    weaker first last (Half first.leaves (Torn 0 (length fresh))) (StandsForSame dialect limit (journal_of dialect limit before)) leaves
    (λ honest c half.
    let torn = subst (λ l. Torn 0 (length fresh) l c) (settled honest half.0 half.1) half.2 in
    same_short dialect limit before c least stands.1 (torn_short (length fresh) before c (fresh_length dialect fresh fresh_is) stands.1 torn))

-- where nothing was called
pub still_same : (dialect : Dialect) (limit : ℕ) (told : Option (List ℕ)) (crashes : Crashes) → IsSound told crashes → Settled told crashes
    → IfSome told (λ before. LeavesOnly crashes crashes (StandsForSame dialect limit (journal_of dialect limit before)))
still_same dialect limit None crashes sound settled = tt
still_same dialect limit (Some before) crashes sound settled =
    started (Some before) crashes (StandsForSame dialect limit (journal_of dialect limit before)) sound (λ honest c left. ap (journal_of dialect limit) (settled honest c left))

pub still_more : (dialect : Dialect) (limit at : ℕ) (what : Body) (told : Option (List ℕ)) (crashes : Crashes) → IsSound told crashes → Settled told crashes
    → IfSome told (λ before. LeavesOnly crashes crashes (StandsForSameOrMore dialect limit at what (journal_of dialect limit before)))
still_more dialect limit at what None crashes sound settled = tt
still_more dialect limit at what (Some before) crashes sound settled =
    started (Some before) crashes (StandsForSameOrMore dialect limit at what (journal_of dialect limit before)) sound (λ honest c left. inl (ap (journal_of dialect limit) (settled honest c left)))

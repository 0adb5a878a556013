-- What a reclaim leaves of the store in each image.
use Rattle.std.proofs.Common.{◌≡◌, ◌≢◌, inl, inr, ℕ, ◌+◌, ◌-◌, ◌<◌, ◌≤◌, ◌^◌, List, []}
use Rattle.std.proofs.Common.{◌∷◌, ◌++◌, length, get_or, take, drop, refl, sym, ap, ◌∙◌, subst}
use Rattle.std.proofs.Common.{arith}
use Rattle.std.proofs.Common.{Option, Some, None, Bool, true, false, not, cond, ◌&&◌, All, IsTrue}
use Rattle.std.proofs.Common.{nat_eq}
use Rattle.std.proofs.Common.{nat_lt, unwrap_or, append_assoc, option_map, length-append}
use Rattle.std.proofs.lemmas.Bool.{cases_eq, lt-ltb}
use Rattle.std.proofs.lemmas.Bool.Decides.{nat_tests}
use Rattle.std.proofs.lemmas.List.{drop_more, take-append-drop, get_or-drop, get_or-take}
use Rattle.std.proofs.lemmas.List.{append-nil, drop-drop}
use Rattle.std.proofs.Math.Seq.{get_or-append_seam}
use Rattle.cu_base.specs.Fields.{number}
use Rattle.cu_base.proofs.Fields.{number-bytes_of}
use Rattle.bench_model.specs.Regions.{AgreesOutside, IsImage}
use Rattle.bench_model.specs.Bench.{BenchValue, ChangesRegion, IsRegionStable, region_at}
use Rattle.bench_model.proofs.ImageLemmas.{agrees_back, image_of_stable}
use Rattle.var_log.specs.declared.change.Change.{Change}
use Rattle.var_log.specs.declared.limits.TheConstants.{OPEN_GATE, CLOSED_GATE}
use Rattle.var_log.specs.Changes.{has_sizes, is_change, after, no_variables, Variables}
use Rattle.var_log.specs.Records.{Entry, body_of, record_size, record_bytes, entries_in}
use Rattle.var_log.specs.Banks.{is_open, is_headed, store_of, store_in, entries_of, reclaimed}
use Rattle.var_log.specs.Banks.{StoreValue}
use Rattle.var_log.specs.Banks.{log_bank, generation_of, reclaimed_store, choice, taken, last_of}
use Rattle.var_log.specs.Banks.{format_of, behind_bank_gate}
use Rattle.var_log.specs.Moves.{IsGated, IsShut, IsReclaiming, Reclaims}
use Rattle.var_log.specs.Logs.{LogValue, IsLog, LiesOn, LiesWhereTold, StandsOn, IsLive}
use Rattle.var_log.specs.Logs.{KeepsVariables}
use Rattle.var_log.specs.Logs.{log_reclaimed, store_as_read}
use Rattle.var_log.proofs.Sizes.{few_changes}
use Rattle.var_log.proofs.Splits.{one_more}
use Rattle.var_log.proofs.BankLemmas.{store_at, made_of, store_is, entry_with, SameHead, same_bank}
use Rattle.var_log.proofs.BankLemmas.{same_choice, same_store}
use Rattle.var_log.proofs.Appends.{image_elsewhere, stable_at, differs}
use Rattle.var_log.proofs.Formats.{head_behind, gateless}
use Rattle.var_log.proofs.Spelled.{length_of_front, and_first, eqb-true}

-- ---- which bank is the log

first_was_open : (a b c : Bool) → choice a b c ≡ Some 0 → a ≡ true
first_was_open true b c e = refl
first_was_open false true c e = absurd (omega (arith, ap (λ (o : Option ℕ). unwrap_or o 0) e))
first_was_open false false c e = absurd cc

second_was_open : (a b c : Bool) → choice a b c ≡ Some 1 → b ≡ true
second_was_open true true c e = refl
second_was_open true false c e = absurd (omega (arith, ap (λ (o : Option ℕ). unwrap_or o 0) e))
second_was_open false true c e = refl
second_was_open false false c e = absurd cc

-- the bank of the log alone is open
pub alone : (banks : ℕ → List ℕ) (k : ℕ) → k < 2 → is_open (banks k) ≡ true
    → is_open (banks (1 - k)) ≡ false → log_bank banks ≡ Some k
alone banks k low opens shut =
    elim (cases_eq k 0) [
      | inl z ↦
          let first : is_open (banks 0) ≡ true = subst (λ (j : ℕ). is_open (banks j) ≡ true) z opens in
          let second : is_open (banks 1) ≡ false =
          subst (λ (j : ℕ). is_open (banks (1 - j)) ≡ false) z shut in
          rw (first, second) (ap Some (sym z))
      | inr nz ↦
          let one : k ≡ 1 = omega arith in
          let second : is_open (banks 1) ≡ true = subst (λ (j : ℕ). is_open (banks j) ≡ true) one opens in
          let first : is_open (banks 0) ≡ false =
          subst (λ (j : ℕ). is_open (banks (1 - j)) ≡ false) one shut in
          rw (first, second) (ap Some (sym one))
    ]

ltb-no : (a b : ℕ) → b ≤ a → nat_lt a b ≡ false
ltb-no a b h = grind (arith, nat_tests)

-- the newer of two open banks
pub newer : (banks : ℕ → List ℕ) (k : ℕ) → k < 2 → is_open (banks k) ≡ true
    → is_open (banks (1 - k)) ≡ true → generation_of (banks k) < generation_of (banks (1 - k))
    → log_bank banks ≡ Some (1 - k)
newer banks k low opens other less =
    elim (cases_eq k 0) [
      | inl z ↦
          let first : is_open (banks 0) ≡ true = subst (λ (j : ℕ). is_open (banks j) ≡ true) z opens in
          let second : is_open (banks 1) ≡ true =
          subst (λ (j : ℕ). is_open (banks (1 - j)) ≡ true) z other in
          let test : nat_lt (generation_of (banks 0)) (generation_of (banks 1)) ≡ true =
          lt-ltb _ _ (subst (λ (j : ℕ). generation_of (banks j) < generation_of (banks (1 - j))) z less) in
          let is : 1 ≡ 1 - k = omega arith in
          rw (first, second, test) (ap Some is)
      | inr nz ↦
          let one : k ≡ 1 = omega arith in
          let second : is_open (banks 1) ≡ true = subst (λ (j : ℕ). is_open (banks j) ≡ true) one opens in
          let first : is_open (banks 0) ≡ true =
          subst (λ (j : ℕ). is_open (banks (1 - j)) ≡ true) one other in
          let more : generation_of (banks 1) < generation_of (banks 0) =
          subst (λ (j : ℕ). generation_of (banks j) < generation_of (banks (1 - j))) one less in
          let test : nat_lt (generation_of (banks 0)) (generation_of (banks 1)) ≡ false =
          ltb-no _ _ (omega (arith, more)) in
          let is : 0 ≡ 1 - k = omega arith in
          rw (first, second, test) (ap Some is)
    ]

pub was_open : (banks : ℕ → List ℕ) (k : ℕ) → k < 2 → log_bank banks ≡ Some k → is_open (banks k) ≡ true
was_open banks k low is =
    elim (cases_eq k 0) [
      | inl z ↦ subst (λ (j : ℕ). is_open (banks j) ≡ true) (sym z)
          (first_was_open _ (is_open (banks 1)) (nat_lt (generation_of (banks 0)) (generation_of (banks 1)))
          (is ∙ ap Some z))
      | inr nz ↦
          let one : k ≡ 1 = omega arith in
          subst (λ (j : ℕ). is_open (banks j) ≡ true) (sym one)
          (second_was_open (is_open (banks 0)) _ (nat_lt (generation_of (banks 0)) (generation_of (banks 1)))
          (is ∙ ap Some one))
    ]

-- ---- the reclaimed bank

shape_of : (bytes old x : List ℕ) → IsGated 0 bytes old x → get_or x 0 0 ≡ OPEN_GATE → 0 < length x
    → x ≡ OPEN_GATE ∷ (bytes ++ drop (length bytes) (drop 1 x))
shape_of bytes old x gated gate some =
    let n = length bytes in
    drop_more x 0 0 some ∙ ap (λ (g : ℕ). g ∷ drop 1 x) gate
    ∙ ap (λ (l : List ℕ). OPEN_GATE ∷ l)
    (sym (take-append-drop n (drop 1 x)) ∙ ap (λ (l : List ℕ). l ++ drop n (drop 1 x)) gated.behind)

-- a bank that begins with these bytes
pub record IsFresh (generation seq : ℕ) (live : List Change) (x : List ℕ) : Type 0 where
  pub open_now : is_open x ≡ true
  pub format : format_of x ≡ 2
  pub generation_is : generation_of x ≡ generation
  pub entries : entries_of x ≡ entry_with seq live ∷ []

fresh_front : (generation seq : ℕ) (live : List Change) (rest : List ℕ) → generation < 2 ^ 64
    → seq < 2 ^ 64 → length (body_of live) < 2 ^ 32 → length live < 2 ^ 16
    → All (λ c. IsTrue (is_change c)) live
    → IsFresh generation seq live (OPEN_GATE ∷ (reclaimed generation seq live ++ rest))
fresh_front generation seq live rest low low_seq small few each =
    let x : List ℕ = OPEN_GATE ∷ (reclaimed generation seq live ++ rest) in
    let tail : drop 16 x ≡ record_bytes 2 seq live ++ CLOSED_GATE ∷ rest =
    append_assoc (record_bytes 2 seq live) (CLOSED_GATE ∷ []) rest in
    record {
      open_now = refl;
      format = refl;
      generation_is = number-bytes_of 8 generation low;
      entries = ap (λ (l : List ℕ). entries_in (length x) 2 None l) tail
          ∙ one_more (length (reclaimed generation seq live ++ rest)) 2 None seq live rest small low_seq few
          each refl;
    }

pub fresh : (generation seq : ℕ) (live : List Change) (old x : List ℕ) → generation < 2 ^ 64
    → seq < 2 ^ 64 → length (body_of live) < 2 ^ 32 → length live < 2 ^ 16
    → All (λ c. IsTrue (is_change c)) live
    → IsGated 0 (reclaimed generation seq live) old x → get_or x 0 0 ≡ OPEN_GATE → 0 < length x
    → IsFresh generation seq live x
fresh generation seq live old x low low_seq small few each gated gate some =
    subst (IsFresh generation seq live) (sym (shape_of (reclaimed generation seq live) old x gated gate some))
    (fresh_front generation seq live _ low low_seq small few each)

fresh_store : (generation seq : ℕ) (live : List Change) (x : List ℕ) → IsFresh generation seq live x
    → store_in x ≡ (let s : StoreValue = record {
      variables = after no_variables live;
      seq = seq;
      generation = generation;
    } in s)
unfolding made_of
fresh_store generation seq live x is =
    store_is x ∙ ap (λ (es : List Entry). made_of es (generation_of x)) is.entries
    ∙ ap (made_of (entry_with seq live ∷ [])) is.generation_is
    ∙ ap (λ (l : List Change). let s : StoreValue = record {
      variables = after no_variables l;
      seq = seq;
      generation = generation;
    } in s) (append-nil live)

some_same : {A : Type 0} (a b : A) → Some a ≡ Some b → a ≡ b
some_same a b e = cc

-- ---- a reclaim under way

pub record UnderReclaim (log : LogValue) (live : List Change) (old : BenchValue) : Type 0 where
  pub place : IsLog log
  pub stands : LiesOn log old
  pub lives : IsLive live old
  pub low : log.generation + 1 < 2 ^ 64
  pub low_seq : log.seq < 2 ^ 64
  pub small : length (body_of live) < 2 ^ 32
  pub few : length live < 2 ^ 16
  pub each : All (λ c. IsTrue (is_change c)) live
  pub fits : 17 + record_size 2 (length (body_of live)) ≤ log.size

-- the place that is closed first
abbrev pub closing_place : Bool → ℕ
closing_place other_gate = cond other_gate 0 1

module _ (log : LogValue) (live : List Change) (old : BenchValue) (under : UnderReclaim log live old) where
  abbrev pub bytes : List ℕ
  bytes = reclaimed (log.generation + 1) log.seq live

  abbrev pub other : ℕ
  other = 1 - log.bank

  low_bank : log.bank < 2
  low_bank = under.place.bank

  apart : log.bank ≢ other
  apart = let low = low_bank in λ e. absurd (omega arith)

  low_other : other < 2
  low_other = let low = low_bank in omega arith

  back : 1 - other ≡ log.bank
  back = let low = low_bank in omega arith

  -- the store as read
  old_store : (w : LiesWhereTold log old) → store_as_read old ≡ Some (store_in (old.contents.bytes log.bank))
  old_store w = store_at old.contents.bytes log.bank w.is.bank

  kept_log : (w : LiesWhereTold log old) (banks : ℕ → List ℕ)
      → banks log.bank ≡ old.contents.bytes log.bank → log_bank banks ≡ Some log.bank
      → store_of banks ≡ store_as_read old
  kept_log w banks same is =
      store_at banks log.bank is ∙ ap (λ (l : List ℕ). Some (store_in l)) same ∙ sym (old_store w)

  -- the other bank is shut
  shut_other : (w : LiesWhereTold log old) (banks : ℕ → List ℕ)
      → banks log.bank ≡ old.contents.bytes log.bank → is_open (banks other) ≡ false
      → store_of banks ≡ store_as_read old
  shut_other w banks same shut =
      kept_log w banks same (alone banks log.bank low_bank
      (ap is_open same ∙ was_open old.contents.bytes log.bank low_bank w.is.bank) shut)

  fresh_other : (told : old.contents.told ≡ true) (w : LiesWhereTold log old) (banks : ℕ → List ℕ)
      → banks log.bank ≡ old.contents.bytes log.bank → IsFresh (log.generation + 1) log.seq live (banks other)
      → store_of banks ≡ option_map reclaimed_store (store_as_read old)
  fresh_other told w banks same is =
      let was = old_store w in
      let s = store_in (old.contents.bytes log.bank) in
      let live_is : s.variables ≡ after no_variables live =
      some_same _ _ (sym (ap (option_map (λ (t : StoreValue). t.variables)) was) ∙ under.lives told) in
      let now : log_bank banks ≡ Some other = newer banks log.bank low_bank
      (ap is_open same ∙ was_open old.contents.bytes log.bank low_bank w.is.bank) is.open_now
      (omega (arith, ap generation_of same, w.is.generation, is.generation_is)) in
      store_at banks other now
      ∙ ap Some (fresh_store (log.generation + 1) log.seq live (banks other) is
      ∙ ap (λ (v : Variables). let t : StoreValue = record {
        variables = v;
        seq = log.seq;
        generation = log.generation + 1;
      } in t) (sym live_is)
      ∙ ap (λ (n : ℕ). let t : StoreValue = record {
        variables = s.variables;
        seq = n;
        generation = log.generation + 1;
      } in t) (sym w.is.seq)
      ∙ ap (λ (n : ℕ). let t : StoreValue = record {
        variables = s.variables;
        seq = s.seq;
        generation = n + 1;
      } in t) (sym w.is.generation))
      ∙ ap (option_map reclaimed_store) (sym was)

  -- ---- each image

  one_written : (g : Bool) (place : ℕ) (was x : List ℕ) → place ≡ closing_place g
      → g ≡ nat_eq (get_or was 0 0) OPEN_GATE → AgreesOutside place 1 was x
      → get_or x 0 0 ≡ OPEN_GATE → SameHead was x
  one_written true place was x e told agrees opens =
      let at_front : AgreesOutside 0 1 was x = subst (λ (k : ℕ). AgreesOutside k 1 was x) e agrees in
      let same : drop 1 x ≡ drop 1 was = agrees_back 0 1 was x at_front in
      let before : get_or was 0 0 ≡ OPEN_GATE = eqb-true _ _ (sym told) in
      record {
        open_too = ap (λ (k : ℕ). nat_eq k OPEN_GATE && is_headed x) (opens ∙ sym before)
            ∙ ap (λ (h : Bool). nat_eq (get_or was 0 0) OPEN_GATE && h) (head_behind was x same);
        generation = ap (λ (l : List ℕ). number (take 8 l))
            (sym (drop-drop 7 1 x) ∙ ap (drop 7) same ∙ drop-drop 7 1 was);
        format = ap (λ (l : List ℕ). number (take 4 l))
            (sym (drop-drop 3 1 x) ∙ ap (drop 3) same ∙ drop-drop 3 1 was);
      }
  one_written false place was x e told agrees opens =
      absurd (differs _ _ (sym told) (sym (agrees.same 0 (inl (omega (arith, e)))) ∙ opens))

  shut_between : (g : Bool) (place : ℕ) (was mid : List ℕ) → place ≡ closing_place g
      → g ≡ nat_eq (get_or was 0 0) OPEN_GATE → IsShut place was mid → get_or mid 0 0 ≢ OPEN_GATE
  shut_between true place was mid e told shut = λ opens.
      let here : get_or mid 0 0 ≡ CLOSED_GATE = ap (λ (k : ℕ). get_or mid k 0) (sym e) ∙ shut.gate in
      absurd (omega (arith, here, opens))
  shut_between false place was mid e told shut = λ opens.
      differs _ _ (sym told) (sym (shut.outside.same 0 (inl (omega (arith, e)))) ∙ opens)

  -- the log is where it was while the headers are the same
  same_heads : (w : LiesWhereTold log old) (banks : ℕ → List ℕ)
      → banks log.bank ≡ old.contents.bytes log.bank
      → SameHead (old.contents.bytes other) (banks other) → store_of banks ≡ store_as_read old
  same_heads w banks mine head =
      let each : (j : ℕ) → j < 2 → SameHead (old.contents.bytes j) (banks j) =
      λ j low. elim (cases_eq j log.bank) [
        | inl e ↦ (same_bank _ _ (ap banks e ∙ mine ∙ ap old.contents.bytes (sym e))).head
        | inr ne ↦
            let bank_low = low_bank in
            let is : other ≡ j = omega arith in
            subst (λ (k : ℕ). SameHead (old.contents.bytes k) (banks k)) is head
      ] in
      kept_log w banks mine
      (same_choice old.contents.bytes banks (each 0 (omega arith)) (each 1 (omega arith)) ∙ w.is.bank)

  pub variables_kept : (new : BenchValue) (place : ℕ) → place ≡ closing_place log.other_gate
      → ChangesRegion other old new
      → (IsRegionStable other old → (image : List ℕ) → IsImage (region_at new.contents other) image
      → IsReclaiming place bytes (old.contents.bytes other) image)
      → KeepsVariables old new
  variables_kept new place e frame images = λ image is.
      let told : old.contents.told ≡ true = sym frame.told ∙ (is 0).told in
      let w = under.stands.told told in
      let x = image other in
      let mine = image_elsewhere other old new frame log.bank apart
      (stable_at old log.bank low_bank w.first w.second) (image log.bank) (is log.bank) in
      let long : length (old.contents.bytes other) ≡ log.size = under.stands.size other low_other in
      elim (images (stable_at old other low_other w.first w.second) x (is other)) [
        | inl agrees ↦ elim (cases_eq (get_or x 0 0) OPEN_GATE) [
          | inl opens ↦ inl (same_heads w image mine
              (one_written log.other_gate place _ x e w.is.other agrees opens))
          | inr shut ↦ inl (shut_other w image mine (gateless x shut))
        ]
        | inr r ↦
            let closed = shut_between log.other_gate place _ r.between e w.is.other r.shut in
            elim r.opening [
              | inl agrees ↦ inl (shut_other w image mine (gateless x (λ opens.
                  closed (sym (agrees.same 0 (inl (omega arith))) ∙ opens))))
              | inr gated ↦ elim (cases_eq (get_or x 0 0) OPEN_GATE) [
                | inl opens ↦ inr (fresh_other told w image mine
                    (fresh (log.generation + 1) log.seq live r.between x under.low under.low_seq
                    under.small under.few under.each gated opens
                    (omega (arith, gated.outside.long, r.shut.outside.long, long, under.fits))))
                | inr shut ↦ inl (shut_other w image mine (gateless x shut))
              ]
            ]
      ]

  -- ---- the log afterwards

  last_shut : (mid x : List ℕ) → IsGated 0 bytes mid x
      → get_or x (16 + record_size 2 (length (body_of live))) 0 ≡ CLOSED_GATE
  last_shut mid x gated =
      let head = behind_bank_gate 2 (log.generation + 1) in
      let entry = record_bytes 2 log.seq live in
      let whole : bytes ≡ (head ++ entry) ++ CLOSED_GATE ∷ [] =
      sym (append_assoc head entry (CLOSED_GATE ∷ [])) in
      let size : length (head ++ entry) ≡ 15 + record_size 2 (length (body_of live)) =
      omega (
        arith,
        length-append head entry,
        length-append entry (CLOSED_GATE ∷ []),
        length_of_front 2 log.seq live (CLOSED_GATE ∷ []),
      ) in
      let n = length (head ++ entry) in
      let long : length bytes ≡ n + 1 =
      ap length whole ∙ length-append (head ++ entry) (CLOSED_GATE ∷ []) in
      let place : 16 + record_size 2 (length (body_of live)) ≡ 0 + 1 + n = omega (arith, size) in
      let low : n < length bytes = omega (arith, long) in
      ap (λ (k : ℕ). get_or x k 0) place ∙ sym (get_or-drop (0 + 1) x n 0)
      ∙ sym (get_or-take (length bytes) (drop (0 + 1) x) n 0 low)
      ∙ ap (λ (l : List ℕ). get_or l n 0) gated.behind
      ∙ ap (λ (l : List ℕ). get_or l n 0) whole
      ∙ get_or-append_seam (head ++ entry) CLOSED_GATE [] 0

  fresh_after : (new : BenchValue) (place : ℕ) → ChangesRegion other old new
      → length (new.contents.bytes other) ≡ length (old.contents.bytes other)
      → (new.contents.told ≡ true
      → Reclaims place bytes (old.contents.bytes other) (new.contents.bytes other))
      → new.contents.told ≡ true
      → IsFresh (log.generation + 1) log.seq live (new.contents.bytes other)
  fresh_after new place frame long done told =
      let r = done told in
      let wide : length (old.contents.bytes other) ≡ log.size = under.stands.size other low_other in
      fresh (log.generation + 1) log.seq live r.between (new.contents.bytes other) under.low
      under.low_seq under.small under.few under.each r.opened.gated r.opened.gate
      (omega (arith, long, wide, under.fits))

  lies_reclaimed : (new : BenchValue) (place n : ℕ) → n ≡ record_size 2 (length (body_of live))
      → ChangesRegion other old new → IsRegionStable other new
      → length (new.contents.bytes other) ≡ length (old.contents.bytes other)
      → (new.contents.told ≡ true
      → Reclaims place bytes (old.contents.bytes other) (new.contents.bytes other))
      → new.contents.told ≡ true → LiesWhereTold (log_reclaimed log n) new
  lies_reclaimed new place n is frame stable long done told =
      let was : old.contents.told ≡ true = sym frame.told ∙ told in
      let w = under.stands.told was in
      let x = new.contents.bytes other in
      let r = done told in
      let f = fresh_after new place frame long done told in
      let mine : new.contents.bytes log.bank ≡ old.contents.bytes log.bank = frame.bytes log.bank apart in
      let opens : is_open (new.contents.bytes log.bank) ≡ true =
      ap is_open mine ∙ was_open old.contents.bytes log.bank low_bank w.is.bank in
      let each : (j : ℕ) → j < 2 → IsRegionStable j new =
      λ j low. elim (cases_eq j other) [
        | inl e ↦ subst (λ (k : ℕ). IsRegionStable k new) (sym e) stable
        | inr ne ↦ record {
          clean = λ m. ap (λ (t : ℕ → Bool). t m) (frame.dirty j ne)
              ∙ (stable_at old j low w.first w.second).clean m;
        }
      ] in
      let here : 16 + n ≡ 16 + record_size 2 (length (body_of live)) = omega (arith, is) in
      record {
        first = each 0 (omega arith);
        second = each 1 (omega arith);
        is = record {
          bank = newer new.contents.bytes log.bank low_bank opens f.open_now
              (omega (arith, ap generation_of mine, w.is.generation, f.generation_is));
          seq = ap (λ (l : List Entry). unwrap_or (last_of None l) 0) f.entries;
          generation = f.generation_is;
          ends = omega (arith, is, ap taken f.entries);
          closed = ap (λ (b : ℕ). not (nat_eq b OPEN_GATE))
              (sym (ap (λ (k : ℕ). get_or x k 0) here ∙ last_shut r.between x r.opened.gated));
          other = sym (ap (λ (k : ℕ). nat_eq (get_or (new.contents.bytes k) 0 0) OPEN_GATE) back
              ∙ and_first (nat_eq (get_or (new.contents.bytes log.bank) 0 0) OPEN_GATE) _ opens);
        };
      }

  pub stands_reclaimed : (new : BenchValue) (place n : ℕ) → n ≡ record_size 2 (length (body_of live))
      → ChangesRegion other old new → IsRegionStable other new
      → length (new.contents.bytes other) ≡ length (old.contents.bytes other)
      → (new.contents.told ≡ true
      → Reclaims place bytes (old.contents.bytes other) (new.contents.bytes other))
      → StandsOn (log_reclaimed log n) new
  stands_reclaimed new place n is frame stable long done = record {
    lies = record {
      size = λ k low. elim (cases_eq k other) [
        | inl e ↦ ap (λ (j : ℕ). length (new.contents.bytes j)) e ∙ long ∙ under.stands.size other low_other
        | inr ne ↦ ap length (frame.bytes k ne) ∙ under.stands.size k low
      ];
      told = lies_reclaimed new place n is frame stable long done;
    };
    format = λ told. (fresh_after new place frame long done told).format;
  }

-- a reclaim of what lives, which takes n bytes
pub under_reclaim : (log : LogValue) (live : List Change) (old : BenchValue) → IsLog log → LiesOn log old
    → IsLive live old → log.generation + 1 < 2 ^ 64 → log.seq < 2 ^ 64 → (n : ℕ)
    → n ≡ record_size 2 (length (body_of live)) → 17 + n ≤ log.size → log.size < 2 ^ 32
    → All (λ c. IsTrue (is_change c)) live → All (λ c. IsTrue (has_sizes c)) live → UnderReclaim log live old
under_reclaim log live old place lies lives low low_seq n is fits small each sizes =
    let few = few_changes live sizes in
    record {
      place = place;
      stands = lies;
      lives = lives;
      low = low;
      low_seq = low_seq;
      small = omega (arith, is);
      few = omega (arith, is, few, place.size);
      each = each;
      fits = omega (arith, is);
    }

-- where nothing moved
pub unmoved : (log : LogValue) (old : BenchValue) → LiesOn log old → KeepsVariables old old
unmoved log old stands = λ image is.
    let w = stands.told (is 0).told in
    inl (same_store old.contents.bytes image
    (same_bank _ _ (image_of_stable (region_at old.contents 0) (image 0) w.first (is 0)))
    (same_bank _ _ (image_of_stable (region_at old.contents 1) (image 1) w.second (is 1))))

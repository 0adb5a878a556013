-- What is found on the banks, and what each exit of an open leaves.
use Rattle.std.proofs.Common.{◌≡◌, ◌≢◌, ◌⊎◌, inl, inr, ℕ, zero, suc, ◌+◌, ◌-◌, ◌<◌, ◌≤◌, ◌^◌, List}
use Rattle.std.proofs.Common.{length}
use Rattle.std.proofs.Common.{get_or, take, drop, refl, sym, ap, ◌∙◌, subst, arith, Option, Some}
use Rattle.std.proofs.Common.{None}
use Rattle.std.proofs.Common.{Bool, true, false, not, cond, nat_eq, nat_lt, unwrap_or, option_map}
use Rattle.std.proofs.Common.{◌||◌, All, IsTrue, Err, Ok, Result, OnOk, is_err}
use Rattle.std.proofs.lemmas.Bool.{cases_eq, true≢false}
use Rattle.std.proofs.lemmas.List.{take-take, get_or-drop}
use Rattle.std.specs.List.{flat_map}
use Rattle.cu_base.specs.Fields.{number}
use Rattle.bench_model.specs.Regions.{IsStable, KeepsImages}
use Rattle.bench_model.specs.Bench.{AreImages, BenchValue, ChangesCounts, ChangesRegion, Contents}
use Rattle.bench_model.specs.Bench.{IsRegionStable, region_at}
use Rattle.bench_model.proofs.ImageLemmas.{image_of_read}
use Rattle.var_log.specs.declared.change.Change.{Change}
use Rattle.var_log.specs.declared.choosing.Chosen.{Chosen}
use Rattle.var_log.specs.declared.limits.TheConstants.{OPEN_GATE}
use Rattle.var_log.specs.Banks.{entries_of, format_of, generation_of, is_open, last_of, log_bank}
use Rattle.var_log.specs.Banks.{reclaimed_store, store_of, StoreValue, taken}
use Rattle.var_log.specs.Changes.{after, keeps_limits, no_variables, Variables}
use Rattle.var_log.specs.Logs.{HasBanks, IsLogOf, KeepsVariables, LiesOn, LogValue, StandsOn}
use Rattle.var_log.specs.Logs.{IsLive}
use Rattle.var_log.specs.Counts.{raised}
use Rattle.var_log.specs.Logs.{ChangesBanks, is_bank_full, is_full, log_reclaimed, ReclaimLeaves}
use Rattle.var_log.specs.declared.fault.LogFault.{LogFault}
use Rattle.var_log.specs.declared.fault.LogFault.TheVariants.{Flash, NoBank, Full, Stale, Memory}
use Rattle.var_log.specs.Opens.{IsBankOf, IsChosen, IsFoundIn, IsReadFrom, KeepsStores, log_store}
use Rattle.var_log.specs.Opens.{heads}
use Rattle.var_log.specs.Opens.{CannotMigrate, IsOpened, OpenAnswers, opening_moves}
use Rattle.var_log.specs.Opens.{is_migration_full, is_old}
use Rattle.var_log.specs.Records.{Entry, body_of, entries_in, record_size}
use Rattle.var_log.proofs.BankLemmas.{SameHead, eqb-no, made_of, same_choice, store_at}
use Rattle.var_log.proofs.LimitLemmas.{entries_limits}
use Rattle.var_log.proofs.Reclaims.{was_open}
use Rattle.var_log.proofs.Spelled.{and_second, eqb-true}
use Rattle.var_log.proofs.Splits.{same_byte, same_field}

-- ---- headers

front_same : (bank : List ℕ) → take 16 (take 16 bank) ≡ take 16 bank
front_same bank = take-take 16 16 bank (omega arith)

pub front_head : (bank : List ℕ) → SameHead bank (take 16 bank)
front_head bank =
    let x : List ℕ = take 16 bank in
    let same = front_same bank in
    let gate = same_byte 16 0 bank x same (omega arith) in
    let named = same_field 16 1 3 bank x same (omega arith) in
    let format = same_field 16 4 4 bank x same (omega arith) in
    record {
      open_too = rw (gate, named, format) refl;
      generation = ap number (same_field 16 8 8 bank x same (omega arith));
      format = ap number format;
    }

pub front_gate : (bank : List ℕ) → get_or (take 16 bank) 0 0 ≡ get_or bank 0 0
front_gate bank = same_byte 16 0 bank (take 16 bank) (front_same bank) (omega arith)

-- what both headers tell holds of the banks
pub chosen_of_banks : (banks fronts : ℕ → List ℕ) (c : Chosen)
    → ((k : ℕ) → k < 2 → fronts k ≡ take 16 (banks k)) → IsBankOf fronts c → IsBankOf banks c
chosen_of_banks banks fronts c are is =
    let low = is.low in
    let head : (k : ℕ) → k < 2 → SameHead (banks k) (fronts k) =
    λ k lt. subst (λ (l : List ℕ). SameHead (banks k) l) (sym (are k lt)) (front_head (banks k)) in
    let other : 1 - c.bank < 2 = omega arith in
    record {
      bank = sym (same_choice banks fronts (head 0 (omega arith)) (head 1 (omega arith))) ∙ is.bank;
      low = low;
      format = is.format ∙ (head c.bank low).format;
      generation = is.generation ∙ (head c.bank low).generation;
      other_gate = is.other_gate
          ∙ ap (λ (b : ℕ). nat_eq b OPEN_GATE)
          (ap (λ (l : List ℕ). get_or l 0 0) (are (1 - c.bank) other) ∙ front_gate (banks (1 - c.bank)));
    }

pub none_of_banks : (banks fronts : ℕ → List ℕ) → ((k : ℕ) → k < 2 → fronts k ≡ take 16 (banks k))
    → log_bank fronts ≡ None → log_bank banks ≡ None
none_of_banks banks fronts are is =
    let head : (k : ℕ) → k < 2 → SameHead (banks k) (fronts k) =
    λ k lt. subst (λ (l : List ℕ). SameHead (banks k) l) (sym (are k lt)) (front_head (banks k)) in
    sym (same_choice banks fronts (head 0 (omega arith)) (head 1 (omega arith))) ∙ is

pub two_fronts : (banks : ℕ → List ℕ) (first second : List ℕ) → first ≡ take 16 (banks 0)
    → second ≡ take 16 (banks 1) → (k : ℕ) → k < 2 → heads first second k ≡ take 16 (banks k)
two_fronts banks first second p q zero low = p
two_fronts banks first second p q (suc zero) low = q
two_fronts banks first second p q (suc (suc k)) low = absurd (omega arith)

pub chosen_all : (banks fronts : ℕ → List ℕ) (o : Option Chosen)
    → ((k : ℕ) → k < 2 → fronts k ≡ take 16 (banks k)) → IsChosen fronts o → IsChosen banks o
chosen_all banks fronts None are is = none_of_banks banks fronts are is
chosen_all banks fronts (Some c) are is = chosen_of_banks banks fronts c are is

-- ---- what is found in a bank

one_or_two : (x : ℕ) (a b : Bool) → nat_eq x 1 ≡ a → nat_eq x 2 ≡ b → (a || b) ≡ true → (x ≡ 1) ⊎ (x ≡ 2)
one_or_two x true b p q h = inl (eqb-true _ _ p)
one_or_two x false true p q h = inr (eqb-true _ _ q)
one_or_two x false false p q h = absurd cc

known_format : (bank : List ℕ) → is_open bank ≡ true → (format_of bank ≡ 1) ⊎ (format_of bank ≡ 2)
known_format bank opens =
    one_or_two (format_of bank) _ _ refl refl
    (and_second _ _ (and_second (nat_eq (get_or bank 0 0) OPEN_GATE) _ opens))

pub found_is_read : (banks : ℕ → List ℕ) (c : Chosen) (records : List ℕ) (log : LogValue) (live : List Change)
    → IsBankOf banks c → records ≡ drop 16 (banks c.bank) → 16 + length records ≡ length (banks c.bank)
    → IsFoundIn c records log live → IsReadFrom banks c.format log live
unfolding made_of
found_is_read banks c records log live chosen are long found =
    let bank : List ℕ = banks log.bank in
    let here : banks c.bank ≡ bank = ap banks (sym found.bank) in
    let entries : entries_of bank ≡ found.entries =
    ap entries_of (sym here)
    ∙ ap (λ (n : ℕ). entries_in n (format_of (banks c.bank)) None (drop 16 (banks c.bank))) (sym long)
    ∙ ap (λ (f : ℕ). entries_in (16 + length records) f None (drop 16 (banks c.bank))) (sym chosen.format)
    ∙ ap (entries_in (16 + length records) c.format None) (sym are) ∙ sym found.are in
    let at_bank : log_bank banks ≡ Some log.bank = chosen.bank ∙ ap Some (sym found.bank) in
    let generation : generation_of bank ≡ log.generation =
    ap generation_of (sym here) ∙ sym chosen.generation ∙ sym found.generation in
    let seq : unwrap_or (last_of None (entries_of bank)) 0 ≡ log.seq =
    ap (λ (es : List Entry). unwrap_or (last_of None es) 0) entries ∙ found.seq in
    let variables : after no_variables (flat_map (λ (e : Entry). e.changes) (entries_of bank))
    ≡ after no_variables live =
    ap (λ (es : List Entry). after no_variables (flat_map (λ (e : Entry). e.changes) es)) entries
    ∙ sym found.live_is.is in
    let store : store_of banks ≡ Some (log_store log live) =
    store_at banks log.bank at_bank
    ∙ ap Some (ap (λ (v : Variables). let s : StoreValue = record {
      variables = v;
      seq = unwrap_or (last_of None (entries_of bank)) 0;
      generation = generation_of bank;
    } in s) variables
    ∙ ap (λ (n : ℕ). let s : StoreValue = record {
      variables = after no_variables live;
      seq = n;
      generation = generation_of bank;
    } in s) seq
    ∙ ap (λ (g : ℕ). let s : StoreValue = record {
      variables = after no_variables live;
      seq = log.seq;
      generation = g;
    } in s) generation) in
    let place : get_or records (taken found.entries) 0 ≡ get_or bank log.at 0 =
    ap (λ (l : List ℕ). get_or l (taken found.entries) 0) (are ∙ ap (drop 16) here)
    ∙ get_or-drop 16 bank (taken found.entries) 0 ∙ ap (λ (k : ℕ). get_or bank k 0) (sym found.ends) in
    let each : All (λ c. IsTrue (keeps_limits c)) live =
    found.live_is.limits (subst (λ (es : List Entry). All (λ d. IsTrue (keeps_limits d))
    (flat_map (λ (e : Entry). e.changes) es)) (sym found.are)
    (entries_limits (16 + length records) c.format None records)) in
    record {
      is = record {
        bank = at_bank;
        seq = seq;
        generation = generation;
        ends = ap (λ (es : List Entry). 16 + taken es) entries ∙ sym found.ends;
        closed = found.closed ∙ ap (λ (b : ℕ). not (nat_eq b OPEN_GATE)) place;
        other = found.other_gate ∙ chosen.other_gate
            ∙ ap (λ (k : ℕ). nat_eq (get_or (banks (1 - k)) 0 0) OPEN_GATE) (sym found.bank);
      };
      format_is = ap format_of (sym here) ∙ sym chosen.format;
      known = elim (known_format (banks c.bank) (was_open banks c.bank chosen.low chosen.bank)) [
        | inl one ↦ inl (chosen.format ∙ one)
        | inr two ↦ inr (chosen.format ∙ two)
      ];
      variables = record {
        are = ap (option_map (λ (s : StoreValue). s.variables)) store;
        sets = found.live_is.sets;
        ordered = found.live_is.ordered;
        limits = each;
      };
      store = store;
      pending = found.pending;
      fresh = found.fresh;
    }

-- what is found keeps its limits, whatever is told
pub found_limits : (c : Chosen) (records : List ℕ) (log : LogValue) (live : List Change)
    → IsFoundIn c records log live → All (λ c. IsTrue (keeps_limits c)) live
found_limits c records log live found =
    found.live_is.limits (subst (λ (es : List Entry). All (λ d. IsTrue (keeps_limits d))
    (flat_map (λ (e : Entry). e.changes) es)) (sym found.are)
    (entries_limits (16 + length records) c.format None records))

-- ---- the exits of an open

pub synced : (s0 s1 : BenchValue)
    → ((k : ℕ) → KeepsImages (region_at s0.contents k) (region_at s1.contents k)) → KeepsStores s0 s1
synced s0 s1 keeps = λ image is. record {
  image = image;
  was = λ k. (keeps k).images (image k) (is k);
  is = inl refl;
}

pub looked : (s0 s1 s2 : BenchValue) → KeepsStores s0 s1 → ChangesCounts s1 s2 → KeepsStores s0 s2
looked s0 s1 s2 keeps frame = λ image is.
    keeps image (subst (λ (c : Contents). AreImages c image) frame.contents is)

pub written_anew : (s0 s2 s3 : BenchValue) → s2.contents.bytes ≡ s0.contents.bytes
    → s2.contents.told ≡ s0.contents.told → s3.contents.told ≡ s2.contents.told → KeepsVariables s2 s3
    → KeepsStores s0 s3
written_anew s0 s2 s3 same told told3 keeps = λ image is.
    let told0 : s0.contents.told ≡ true = sym told ∙ sym told3 ∙ (is 0).told in
    let was : store_of s2.contents.bytes ≡ store_of s0.contents.bytes = ap store_of same in
    record {
      image = s0.contents.bytes;
      was = λ k. image_of_read (region_at s0.contents k) told0;
      is = elim (keeps image is) [
        | inl e ↦ inl (e ∙ was)
        | inr e ↦ inr (e ∙ ap (option_map reclaimed_store) was)
      ];
    }

-- a log that was read lies on the flash
pub lies_there : (s0 s2 : BenchValue) (format : ℕ) (log : LogValue) (live : List Change) → HasBanks s0
    → IsRegionStable 0 s2 → IsRegionStable 1 s2 → s2.contents.bytes ≡ s0.contents.bytes
    → s2.contents.told ≡ s0.contents.told → length (s0.contents.bytes 0) ≡ log.size
    → (s0.contents.told ≡ true → IsReadFrom s0.contents.bytes format log live) → LiesOn log s2
lies_there s0 s2 format log live banks first second same told size read = record {
  size = λ k low. elim (cases_eq k 0) [
    | inl z ↦ ap length (ap s2.contents.bytes z) ∙ ap (λ (f : ℕ → List ℕ). length (f 0)) same ∙ size
    | inr nz ↦
        let one : k ≡ 1 = omega arith in
        ap length (ap s2.contents.bytes one) ∙ ap (λ (f : ℕ → List ℕ). length (f 1)) same ∙ banks.same ∙ size
  ];
  told = λ is. record {
    first = first;
    second = second;
    is = subst (IsLogOf log) (sym same) (read (sym told ∙ is)).is;
  };
}

pub stands_there : (s0 s2 : BenchValue) (format : ℕ) (log : LogValue) (live : List Change) → LiesOn log s2
    → s2.contents.bytes ≡ s0.contents.bytes → s2.contents.told ≡ s0.contents.told
    → (s0.contents.told ≡ true → IsReadFrom s0.contents.bytes format log live) → format ≢ 1 → StandsOn log s2
stands_there s0 s2 format log live lies same told read new = record {
  lies = lies;
  format = λ is.
      let r = read (sym told ∙ is) in
      ap (λ (f : ℕ → List ℕ). format_of (f log.bank)) same ∙ r.format_is ∙ elim r.known [
        | inl one ↦ absurd (new one)
        | inr two ↦ two
      ];
}

pub lives_there : (s0 s2 : BenchValue) (format : ℕ) (log : LogValue) (live : List Change)
    → s2.contents.bytes ≡ s0.contents.bytes → s2.contents.told ≡ s0.contents.told
    → (s0.contents.told ≡ true → IsReadFrom s0.contents.bytes format log live) → IsLive live s2
lives_there s0 s2 format log live same told read = λ is.
    ap (λ (f : ℕ → List ℕ). option_map (λ (s : StoreValue). s.variables) (store_of f)) same
    ∙ (read (sym told ∙ is)).variables.are

-- ---- the answers of an open

old_is : (banks : ℕ → List ℕ) (format : ℕ) (log : LogValue) (live : List Change)
    → IsReadFrom banks format log live → is_old banks ≡ nat_eq format 1
old_is banks format log live read = rw (read.is.bank, read.format_is) refl

some_one : {A : Type 0} (a b : A) → Some a ≡ Some b → a ≡ b
some_one a b e = cc

pub opened_as_read : (banks : ℕ → List ℕ) (format : ℕ) (log : LogValue) (live : List Change)
    → IsReadFrom banks format log live → format ≢ 1 → IsOpened banks log live
opened_as_read banks format log live read new =
    let no : is_old banks ≡ false = old_is banks format log live read ∙ eqb-no format 1 new in
    record {
      store = ap (λ (b : Bool). cond b (option_map reclaimed_store (store_of banks)) (store_of banks)) no
          ∙ read.store;
      variables = read.variables;
      fits = λ s is old. absurd (true≢false (sym old ∙ no));
      pending = read.pending;
      fresh = read.fresh;
    }

full_is : (banks : ℕ → List ℕ) (log : LogValue) (live : List Change) (g : ℕ) → length (banks 0) ≡ log.size
    → g ≡ log.generation
    → is_migration_full (length (banks 0)) g live ≡ is_bank_full (record_size 2 (length (body_of live))) 0 log
full_is banks log live g long is =
    let n = record_size 2 (length (body_of live)) in
    let none : 17 + n ≡ 17 + n + 0 = omega arith in
    ap (λ (k : ℕ). nat_lt k (17 + n) || nat_eq g (2 ^ 64 - 1)) long
    ∙ ap (λ (k : ℕ). nat_lt log.size k || nat_eq g (2 ^ 64 - 1)) none
    ∙ ap (λ (k : ℕ). nat_lt log.size (17 + n + 0) || nat_eq k (2 ^ 64 - 1)) is

pub opened_anew : (banks : ℕ → List ℕ) (log : LogValue) (live : List Change)
    → IsReadFrom banks 1 log live → length (banks 0) ≡ log.size
    → is_bank_full (record_size 2 (length (body_of live))) 0 log ≡ false
    → IsOpened banks (log_reclaimed log (record_size 2 (length (body_of live)))) live
opened_anew banks log live read long fits =
    let yes : is_old banks ≡ true = old_is banks 1 log live read in
    record {
      store = ap (λ (b : Bool). cond b (option_map reclaimed_store (store_of banks)) (store_of banks)) yes
          ∙ ap (option_map reclaimed_store) read.store;
      variables = read.variables;
      fits = λ s is old. full_is banks log live s.generation long
          (ap (λ (t : StoreValue). t.generation) (some_one s (log_store log live) (sym is ∙ read.store))) ∙ fits;
      pending = read.pending;
      fresh = read.fresh;
    }

pub cannot_migrate : (banks : ℕ → List ℕ) (log : LogValue) (live : List Change)
    → IsReadFrom banks 1 log live → length (banks 0) ≡ log.size
    → is_bank_full (record_size 2 (length (body_of live))) 0 log ≡ true → CannotMigrate banks
cannot_migrate banks log live read long full = record {
  old = old_is banks 1 log live read;
  live = live;
  variables = read.variables;
  store = log_store log live;
  is = read.store;
  full = full_is banks log live log.generation long refl ∙ full;
}

-- what lives still lives where each image keeps the variables
kept_of_reclaimed : (o : Option StoreValue)
    → option_map (λ (s : StoreValue). s.variables) (option_map reclaimed_store o)
    ≡ option_map (λ (s : StoreValue). s.variables) o
kept_of_reclaimed None = refl
kept_of_reclaimed (Some s) = refl

pub lives_after : (s2 s3 : BenchValue) (live : List Change) → s3.contents.told ≡ s2.contents.told
    → KeepsVariables s2 s3 → IsLive live s2 → IsLive live s3
lives_after s2 s3 live told keeps lives = λ is.
    let read = keeps s3.contents.bytes (λ k. image_of_read (region_at s3.contents k) is) in
    let was = lives (sym told ∙ is) in
    elim read [
      | inl e ↦ ap (option_map (λ (s : StoreValue). s.variables)) e ∙ was
      | inr e ↦ ap (option_map (λ (s : StoreValue). s.variables)) e
          ∙ kept_of_reclaimed (store_of s2.contents.bytes) ∙ was
    ]

pub no_store : (banks : ℕ → List ℕ) → log_bank banks ≡ None → store_of banks ≡ None
unfolding store_of
no_store banks none = rw none refl

-- what was synced and then read
pub record Look (s0 s1 s2 : BenchValue) (format : ℕ) (log : LogValue) (live : List Change) : Type 0 where
  pub banks : HasBanks s0
  pub first : IsRegionStable 0 s1
  pub second : IsRegionStable 1 s1
  pub bytes : s1.contents.bytes ≡ s0.contents.bytes
  pub images : (k : ℕ) → KeepsImages (region_at s0.contents k) (region_at s1.contents k)
  pub told : s1.contents.told ≡ s0.contents.told
  pub counts : ChangesCounts s1 s2
  pub size : length (s1.contents.bytes 0) ≡ log.size
  pub found : s1.contents.told ≡ true → IsReadFrom s1.contents.bytes format log live

module _ (s0 s1 s2 : BenchValue) (format : ℕ) (log : LogValue) (live : List Change)
    (look : Look s0 s1 s2 format log live) where
  pub same_bytes : s2.contents.bytes ≡ s0.contents.bytes
  same_bytes = ap (λ (c : Contents). c.bytes) look.counts.contents ∙ look.bytes

  pub same_told : s2.contents.told ≡ s0.contents.told
  same_told = ap (λ (c : Contents). c.told) look.counts.contents ∙ look.told

  pub read_as : s0.contents.told ≡ true → IsReadFrom s0.contents.bytes format log live
  read_as is = subst (λ (b : ℕ → List ℕ). IsReadFrom b format log live) look.bytes (look.found (look.told ∙ is))

  pub long_as : length (s0.contents.bytes 0) ≡ log.size
  long_as = ap (λ (b : ℕ → List ℕ). length (b 0)) (sym look.bytes) ∙ look.size

  pub lies_now : LiesOn log s2
  lies_now =
      lies_there s0 s2 format log live look.banks
      (subst (λ (c : Contents). IsStable (region_at c 0)) (sym look.counts.contents) look.first)
      (subst (λ (c : Contents). IsStable (region_at c 1)) (sym look.counts.contents) look.second)
      same_bytes same_told long_as read_as

  pub lives_now : IsLive live s2
  lives_now = lives_there s0 s2 format log live same_bytes same_told read_as

  pub kept_now : KeepsStores s0 s2
  kept_now = looked s0 s1 s2 (synced s0 s1 look.images) look.counts

  pub stands_now : format ≢ 1 → StandsOn log s2
  stands_now new = stands_there s0 s2 format log live lies_now same_bytes same_told read_as new

  pub kept_anew : (s3 : BenchValue) → s3.contents.told ≡ s2.contents.told → KeepsVariables s2 s3
      → KeepsStores s0 s3
  kept_anew s3 told keeps = written_anew s0 s2 s3 same_bytes same_told told keeps

-- the frame of an open that writes anew
pub frame_anew : (s0 s1 s2 s3 : BenchValue) (r : ℕ) → r < 2 → ChangesBanks s0 s1 → ChangesCounts s1 s2
    → ChangesRegion r s2 s3 → length (s3.contents.bytes r) ≡ length (s2.contents.bytes r) → ChangesBanks s0 s3
frame_anew s0 s1 s2 s3 r low first counts last long =
    let c = counts.contents in
    let other : (k : ℕ) → 2 ≤ k → k ≢ r = λ k le e. absurd (omega (arith, e)) in
    record {
      told = last.told ∙ ap (λ (x : Contents). x.told) c ∙ first.told;
      regions = last.regions ∙ ap (λ (x : Contents). x.regions) c ∙ first.regions;
      long = λ k lt. elim (cases_eq k r) [
        | inl e ↦ ap (λ (j : ℕ). length (s3.contents.bytes j)) e ∙ long
            ∙ ap (λ (j : ℕ). length (s2.contents.bytes j)) (sym e)
            ∙ ap (λ (x : Contents). length (x.bytes k)) c ∙ first.long k lt
        | inr ne ↦ ap length (last.bytes k ne) ∙ ap (λ (x : Contents). length (x.bytes k)) c ∙ first.long k lt
      ];
      bytes = λ k le. last.bytes k (other k le) ∙ ap (λ (x : Contents). x.bytes k) c ∙ first.bytes k le;
      dirty = λ k le. last.dirty k (other k le) ∙ ap (λ (x : Contents). x.dirty k) c ∙ first.dirty k le;
      rest = last.rest ∙ ap (λ (x : Contents). x.rest) c ∙ first.rest;
      spare = last.spare ∙ counts.spare ∙ first.spare;
      orders = last.orders ∙ counts.orders ∙ first.orders;
    }

-- what an open that could not write anew answers
pub failed_anew : (banks : ℕ → List ℕ) (log new : LogValue) (live : List Change) (e : LogFault)
    → IsReadFrom banks 1 log live → length (banks 0) ≡ log.size
    → ReclaimLeaves {T = Unit {0}} (record_size 2 (length (body_of live))) log new (Err e)
    → is_full {T = Unit {0}} (Err e) ≡ is_bank_full (record_size 2 (length (body_of live))) 0 log
    → OpenAnswers banks (Err e)
failed_anew banks log new live Flash read long leaves full = tt
failed_anew banks log new live NoBank read long leaves full = absurd leaves
failed_anew banks log new live Full read long leaves full = cannot_migrate banks log live read long (sym full)
failed_anew banks log new live Stale read long leaves full = absurd leaves
failed_anew banks log new live Memory read long leaves full = tt

-- the moves of an open that writes anew
pub moves_anew : (banks : ℕ → List ℕ) (log : LogValue) (live : List Change) (m0 m1 m2 m3 : ℕ)
    → IsReadFrom banks 1 log live → m1 ≡ raised m0 2 → m2 ≡ m1 → m3 ≡ raised m2 6
    → m3 ≡ raised m0 (opening_moves banks)
moves_anew banks log live m0 m1 m2 m3 read first same last =
    let eight : m3 ≡ raised m0 8 = omega (arith, first, same, last) in
    eight ∙ ap (λ (b : Bool). raised m0 (cond b 8 2)) (sym (old_is banks 1 log live read))

pub moves_as_read : (banks : ℕ → List ℕ) (format : ℕ) (log : LogValue) (live : List Change) (m0 m : ℕ)
    → IsReadFrom banks format log live → format ≢ 1 → m ≡ raised m0 2 → m ≡ raised m0 (opening_moves banks)
moves_as_read banks format log live m0 m read new is =
    is ∙ ap (λ (b : Bool). raised m0 (cond b 8 2)) (sym (old_is banks format log live read ∙ eqb-no format 1 new))

pub ok_holds : {T E P : Type 0} (r : Result T E) → is_err r ≡ false → OnOk r P → P
ok_holds (Ok x) fine holds = holds
ok_holds (Err e) fine holds = absurd (true≢false fine)

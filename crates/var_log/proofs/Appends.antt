-- What an append leaves of the store in each image.
use Rattle.std.proofs.Common.{◌≡◌, ◌≢◌, inl, inr, ℕ, ◌+◌, ◌-◌, ◌<◌, ◌≤◌, List, [], ◌∷◌, ◌++◌}
use Rattle.std.proofs.Common.{length, get_or, take, drop, refl, sym, ap, ◌∙◌, subst, arith, Option}
use Rattle.std.proofs.Common.{Some}
use Rattle.std.proofs.Common.{None, Bool, true, false, not, cond, nat_eq, unwrap_or}
use Rattle.std.proofs.Common.{append_assoc, length-append}
use Rattle.std.proofs.lemmas.Bool.{cases_eq}
use Rattle.std.proofs.lemmas.Bool.Decides.{nat_tests}
use Rattle.std.proofs.lemmas.List.{drop_more, take-append-drop, get_or-drop, get_or-take}
use Rattle.std.proofs.Math.Seq.{get_or-append_seam}
use Rattle.bench_model.specs.Regions.{AgreesOutside, IsImage}
use Rattle.bench_model.specs.Bench.{BenchValue, ChangesRegion, IsRegionStable, region_at}
use Rattle.bench_model.proofs.ImageLemmas.{agrees_front, image_of_stable}
use Rattle.var_log.specs.declared.change.Change.{Change}
use Rattle.var_log.specs.declared.limits.TheConstants.{OPEN_GATE, CLOSED_GATE}
use Rattle.var_log.specs.Records.{behind_gate, record_bytes, record_size, body_of, IsWritable}
use Rattle.var_log.specs.Records.{record_with}
use Rattle.var_log.specs.Records.{is_next, RecordValue, Entry}
use Rattle.var_log.specs.Banks.{entries_of, end_of, last_of, log_bank, store_of}
use Rattle.var_log.specs.Banks.{taken}
use Rattle.var_log.specs.Moves.{IsGated, IsOpening, IsOpened}
use Rattle.var_log.specs.Logs.{LogValue, IsLog, LiesWhereTold, StandsOn, free_of, log_after}
use Rattle.var_log.specs.Logs.{HasBatch, HasBatchOrNot, store_as_read, store_with}
use Rattle.var_log.proofs.BankLemmas.{SameHead, SameBank, Grown, same_bank, kept, grown}
use Rattle.var_log.proofs.BankLemmas.{entry_with, same_store, same_choice, store_at, grown_store_in}
use Rattle.var_log.proofs.BankLemmas.{last_grown, taken_grown}
use Rattle.var_log.proofs.Splits.{same_field}
use Rattle.var_log.proofs.Spelled.{length_of_front}

pub stable_at : (b : BenchValue) (k : ℕ) → k < 2 → IsRegionStable 0 b → IsRegionStable 1 b
    → IsRegionStable k b
stable_at b k low first second =
    elim (cases_eq k 0) [
      | inl zero ↦ subst (λ (j : ℕ). IsRegionStable j b) (sym zero) first
      | inr some ↦
          let one : 1 ≡ k = omega arith in
          subst (λ (j : ℕ). IsRegionStable j b) one second
    ]

-- an image of a bank that was left as it was
pub image_elsewhere : (region : ℕ) (old new : BenchValue) → ChangesRegion region old new → (j : ℕ)
    → j ≢ region → IsRegionStable j old → (image : List ℕ)
    → IsImage (region_at new.contents j) image → image ≡ old.contents.bytes j
image_elsewhere region old new frame j other stable image is =
    image_of_stable (region_at old.contents j) image stable (record {
      told = sym frame.told ∙ is.told;
      long = is.long ∙ ap length (frame.bytes j other);
      same = λ k clean. is.same k (ap (λ (f : ℕ → Bool). f k) (frame.dirty j other) ∙ clean)
          ∙ ap (λ (l : List ℕ). get_or l k 0) (frame.bytes j other);
    })

next_is : (o : Option ℕ) (number : ℕ) → number ≡ unwrap_or o 0 + 1 → is_next o number ≡ true
next_is None number is = refl
next_is (Some b) number is = grind (arith, nat_tests)

closed_is : (c : Bool) (x n : ℕ) → 0 < n → n ≤ cond c x 0 → (c ≡ true) × (n ≤ x)
closed_is true x n some le = (refl, le)
closed_is false x n some le = absurd (omega arith)

not_open : (b : Bool) → true ≡ not b → b ≡ false
not_open true e = absurd cc
not_open false e = refl

pub differs : (a b : ℕ) → nat_eq a b ≡ false → a ≢ b
differs a b h = λ e. grind (arith, nat_tests)

-- an append under way: the log stands on the flash, and the record is its next and fits
pub record Appending (log : LogValue) (number : ℕ) (cs : List Change) (old : BenchValue) : Type 0 where
  pub place : IsLog log
  pub stands : StandsOn log old
  pub next : number ≡ log.seq + 1
  pub is : IsWritable (record_with number cs)
  pub fits : record_size 2 (length (body_of cs)) ≤ free_of log

module _ (log : LogValue) (number : ℕ) (cs : List Change) (old : BenchValue)
    (under : Appending log number cs old) where
  abbrev pub bank : List ℕ
  bank = old.contents.bytes log.bank

  abbrev pub bytes : List ℕ
  bytes = behind_gate 2 number cs ++ CLOSED_GATE ∷ []

  room : (log.closed ≡ true) × (record_size 2 (length (body_of cs)) ≤ log.size - log.at - 1)
  room = closed_is log.closed _ _ (omega arith) under.fits

  shut_before : (w : LiesWhereTold log old) → get_or bank log.at 0 ≢ OPEN_GATE
  shut_before w = differs _ _ (not_open _ (sym room.0 ∙ w.is.closed))

  inside : (w : LiesWhereTold log old) → end_of bank < length bank
  inside w = omega (arith, w.is.ends, under.stands.lies.size log.bank under.place.bank, under.place.within)

  -- the front of a bank in which bytes behind the gate changed
  still : (w : LiesWhereTold log old) (x : List ℕ) → AgreesOutside (log.at + 1) (length bytes) bank x
      → SameBank bank x
  still w x agrees =
      let front = agrees_front (log.at + 1) (length bytes) bank x agrees in
      kept bank x (record {
        long = agrees.long;
        same = same_field (log.at + 1) 0 (end_of bank) bank x front (omega (arith, w.is.ends));
      }) (inside w)
      (λ opens. shut_before w
      (sym (agrees.same log.at (inl (omega arith)))
      ∙ ap (λ (k : ℕ). get_or x k 0) (sym w.is.ends) ∙ opens))

  -- the same where the gate is no open one
  still_shut : (w : LiesWhereTold log old) (x : List ℕ) → IsGated log.at bytes bank x
      → get_or x log.at 0 ≢ OPEN_GATE → SameBank bank x
  still_shut w x gated shut =
      let front = agrees_front log.at (1 + length bytes) bank x gated.outside in
      kept bank x (record {
        long = gated.outside.long;
        same = subst (λ (k : ℕ). take k x ≡ take k bank) (sym w.is.ends) front;
      }) (inside w) (λ opens. shut (ap (λ (k : ℕ). get_or x k 0) (sym w.is.ends) ∙ opens))

  -- and where it is open
  more : (told : old.contents.told ≡ true) (w : LiesWhereTold log old) (x : List ℕ)
      → IsGated log.at bytes bank x
      → get_or x log.at 0 ≡ OPEN_GATE → Grown (entry_with number cs) bank x
  more told w x gated opens =
      let front = agrees_front log.at (1 + length bytes) bank x gated.outside in
      let n = length bytes in
      let rest : List ℕ = drop n (drop (log.at + 1) x) in
      let long : log.at < length x = omega (arith, gated.outside.long, inside w, w.is.ends) in
      let behind : drop (log.at + 1) x ≡ bytes ++ rest =
      sym (take-append-drop n (drop (log.at + 1) x)) ∙ ap (λ (l : List ℕ). l ++ rest) gated.behind in
      let here : drop log.at x ≡ record_bytes 2 number cs ++ CLOSED_GATE ∷ rest =
      drop_more x log.at 0 long ∙ ap (λ (g : ℕ). g ∷ drop (log.at + 1) x) opens
      ∙ ap (λ (l : List ℕ). OPEN_GATE ∷ l) behind
      ∙ ap (λ (l : List ℕ). OPEN_GATE ∷ l) (append_assoc (behind_gate 2 number cs) (CLOSED_GATE ∷ []) rest) in
      grown bank x number cs rest (record {
        long = gated.outside.long;
        same = subst (λ (k : ℕ). take k x ≡ take k bank) (sym w.is.ends) front;
      }) (inside w) (under.stands.format told) (ap (λ (k : ℕ). drop k x) w.is.ends ∙ here)
      (omega (arith, under.is.small)) under.is.low (omega (arith, under.is.few)) under.is.each
      (next_is _ number (under.next ∙ ap (λ (k : ℕ). k + 1) (sym w.is.seq)))

  -- ---- the stores of banks of which this one alone may have changed

  others_same : (banks : ℕ → List ℕ) → SameBank bank (banks log.bank)
      → ((j : ℕ) → j < 2 → j ≢ log.bank → banks j ≡ old.contents.bytes j)
      → store_of banks ≡ store_as_read old
  others_same banks same others =
      let each : (j : ℕ) → j < 2 → SameBank (old.contents.bytes j) (banks j) =
      λ j low. elim (cases_eq j log.bank) [
        | inl e ↦ subst (λ (k : ℕ). SameBank (old.contents.bytes k) (banks k)) (sym e) same
        | inr ne ↦ same_bank _ _ (others j low ne)
      ] in
      same_store old.contents.bytes banks (each 0 (omega arith)) (each 1 (omega arith))

  same_bank_is_log : (w : LiesWhereTold log old) (banks : ℕ → List ℕ) → SameHead bank (banks log.bank)
      → ((j : ℕ) → j < 2 → j ≢ log.bank → banks j ≡ old.contents.bytes j)
      → log_bank banks ≡ Some log.bank
  same_bank_is_log w banks same others =
      let each : (j : ℕ) → j < 2 → SameHead (old.contents.bytes j) (banks j) =
      λ j low. elim (cases_eq j log.bank) [
        | inl e ↦ subst (λ (k : ℕ). SameHead (old.contents.bytes k) (banks k)) (sym e) same
        | inr ne ↦ (same_bank _ _ (others j low ne)).head
      ] in
      same_choice old.contents.bytes banks (each 0 (omega arith)) (each 1 (omega arith)) ∙ w.is.bank

  with_more : (w : LiesWhereTold log old) (banks : ℕ → List ℕ)
      → Grown (entry_with number cs) bank (banks log.bank)
      → ((j : ℕ) → j < 2 → j ≢ log.bank → banks j ≡ old.contents.bytes j)
      → store_of banks ≡ store_with cs (store_as_read old)
  with_more w banks is others =
      store_at banks log.bank (same_bank_is_log w banks is.head others)
      ∙ ap Some (grown_store_in (entry_with number cs) bank (banks log.bank) is
      (under.next ∙ ap (λ (k : ℕ). k + 1) (sym w.is.seq)))
      ∙ ap (store_with cs) (sym (store_at old.contents.bytes log.bank w.is.bank))

  -- ---- each image

  pub batch_or_not : (new : BenchValue) → ChangesRegion log.bank old new
      → (IsRegionStable log.bank old → (image : List ℕ) → IsImage (region_at new.contents log.bank) image
      → IsOpening log.at bytes bank image)
      → HasBatchOrNot cs old new
  batch_or_not new frame images = λ image is.
      let was : old.contents.told ≡ true = sym frame.told ∙ (is 0).told in
      let w = under.stands.lies.told was in
      let others : (j : ℕ) → j < 2 → j ≢ log.bank → image j ≡ old.contents.bytes j =
      λ j low ne. image_elsewhere log.bank old new frame j ne (stable_at old j low w.first w.second)
      (image j) (is j) in
      elim (images (stable_at old log.bank under.place.bank w.first w.second) (image log.bank) (is log.bank)) [
        | inl agrees ↦ inl (others_same image (still w (image log.bank) agrees) others)
        | inr gated ↦ elim (cases_eq (get_or (image log.bank) log.at 0) OPEN_GATE) [
          | inl opens ↦ inr (with_more w image (more was w (image log.bank) gated opens) others)
          | inr shut ↦ inl (others_same image (still_shut w (image log.bank) gated shut) others)
        ]
      ]

  pub has_batch : (new : BenchValue) → ChangesRegion log.bank old new → IsRegionStable log.bank new
      → (new.contents.told ≡ true → IsOpened log.at bytes bank (new.contents.bytes log.bank))
      → HasBatch cs old new
  has_batch new frame stable done = λ image is.
      let told : new.contents.told ≡ true = (is 0).told in
      let was : old.contents.told ≡ true = sym frame.told ∙ told in
      let w = under.stands.lies.told was in
      let others : (j : ℕ) → j < 2 → j ≢ log.bank → image j ≡ old.contents.bytes j =
      λ j low ne. image_elsewhere log.bank old new frame j ne (stable_at old j low w.first w.second)
      (image j) (is j) in
      let here : image log.bank ≡ new.contents.bytes log.bank =
      image_of_stable (region_at new.contents log.bank) (image log.bank) stable (is log.bank) in
      let opened = done told in
      with_more w image
      (subst (λ (l : List ℕ). Grown (entry_with number cs) bank l) (sym here)
      (more was w (new.contents.bytes log.bank) opened.gated opened.gate)) others

  -- ---- the log afterwards

  size_of_bytes : length bytes ≡ record_size 2 (length (body_of cs))
  size_of_bytes = omega (arith, length_of_front 2 number cs (CLOSED_GATE ∷ []))

  last_byte : (x : List ℕ) → IsGated log.at bytes bank x
      → get_or x (log.at + record_size 2 (length (body_of cs))) 0 ≡ CLOSED_GATE
  last_byte x gated =
      let bg = behind_gate 2 number cs in
      let long : length bytes ≡ length bg + 1 = length-append bg (CLOSED_GATE ∷ []) in
      let place : log.at + record_size 2 (length (body_of cs)) ≡ log.at + 1 + length bg =
      omega (arith, size_of_bytes, long) in
      let low : length bg < length bytes = omega (arith, long) in
      ap (λ (k : ℕ). get_or x k 0) place
      ∙ sym (get_or-drop (log.at + 1) x (length bg) 0)
      ∙ sym (get_or-take (length bytes) (drop (log.at + 1) x) (length bg) 0 low)
      ∙ ap (λ (l : List ℕ). get_or l (length bg) 0) gated.behind
      ∙ get_or-append_seam bg CLOSED_GATE [] 0

  lies_after : (new : BenchValue) (n : ℕ) → n ≡ record_size 2 (length (body_of cs))
      → ChangesRegion log.bank old new → IsRegionStable log.bank new
      → (new.contents.told ≡ true → IsOpened log.at bytes bank (new.contents.bytes log.bank))
      → new.contents.told ≡ true → LiesWhereTold (log_after log n) new
  lies_after new n is frame stable done told =
      let was : old.contents.told ≡ true = sym frame.told ∙ told in
      let w = under.stands.lies.told was in
      let x = new.contents.bytes log.bank in
      let opened = done told in
      let grows = more was w x opened.gated opened.gate in
      let es = entries_of bank in
      let others : (j : ℕ) → j < 2 → j ≢ log.bank → new.contents.bytes j ≡ old.contents.bytes j =
      λ j low ne. frame.bytes j ne in
      let each : (j : ℕ) → j < 2 → IsRegionStable j new =
      λ j low. elim (cases_eq j log.bank) [
        | inl e ↦ subst (λ (k : ℕ). IsRegionStable k new) (sym e) stable
        | inr ne ↦ record {
          clean = λ m. ap (λ (f : ℕ → Bool). f m) (frame.dirty j ne)
              ∙ (stable_at old j low w.first w.second).clean m;
        }
      ] in
      let here : log.at + n ≡ log.at + record_size 2 (length (body_of cs)) = omega (arith, is) in
      let low_bank : log.bank < 2 = under.place.bank in
      let other : 1 - log.bank ≢ log.bank = λ e. absurd (omega arith) in
      record {
        first = each 0 (omega arith);
        second = each 1 (omega arith);
        is = record {
          bank = same_bank_is_log w new.contents.bytes grows.head others;
          seq = ap (λ (l : List Entry). unwrap_or (last_of None l) 0) grows.entries
              ∙ ap (λ (o : Option ℕ). unwrap_or o 0) (last_grown es (entry_with number cs))
              ∙ under.next;
          generation = grows.head.generation ∙ w.is.generation;
          ends = omega (
            arith,
            is,
            w.is.ends,
            ap taken grows.entries,
            taken_grown es (entry_with number cs),
          );
          closed = ap (λ (b : ℕ). not (nat_eq b OPEN_GATE))
              (sym (ap (λ (k : ℕ). get_or x k 0) here ∙ last_byte x opened.gated));
          other = w.is.other ∙ ap (λ (l : List ℕ). nat_eq (get_or l 0 0) OPEN_GATE)
              (sym (frame.bytes (1 - log.bank) other));
        };
      }

  pub stands_after : (new : BenchValue) (n : ℕ) → n ≡ record_size 2 (length (body_of cs))
      → ChangesRegion log.bank old new → IsRegionStable log.bank new
      → length (new.contents.bytes log.bank) ≡ length bank
      → (new.contents.told ≡ true → IsOpened log.at bytes bank (new.contents.bytes log.bank))
      → StandsOn (log_after log n) new
  stands_after new n is frame stable long done = record {
    lies = record {
      size = λ k low. elim (cases_eq k log.bank) [
        | inl e ↦ ap (λ (j : ℕ). length (new.contents.bytes j)) e ∙ long
            ∙ under.stands.lies.size log.bank under.place.bank
        | inr ne ↦ ap length (frame.bytes k ne) ∙ under.stands.lies.size k low
      ];
      told = lies_after new n is frame stable done;
    };
    format = λ told.
        let was : old.contents.told ≡ true = sym frame.told ∙ told in
        let opened = done told in
        (more was (under.stands.lies.told was) (new.contents.bytes log.bank) opened.gated opened.gate).head.format
        ∙ under.stands.format was;
  }

-- the record of an entry that was given its number
pub under_way : (log : LogValue) (old : BenchValue) (entry v : RecordValue) → IsLog log
    → StandsOn log old → v ≡ (let r : RecordValue = record entry { number = log.seq + 1 } in r)
    → IsWritable v → entry.size ≤ free_of log
    → Appending log (log.seq + 1) entry.changes old
under_way log old entry v place stands e is fits =
    let made : v ≡ record_with (log.seq + 1) entry.changes =
    is.is ∙ ap (λ (r : RecordValue). record_with r.number r.changes) e in
    record {
      place = place;
      stands = stands;
      next = refl;
      is = subst IsWritable made is;
      fits = omega (arith, fits, ap (λ (r : RecordValue). r.size) made, ap (λ (r : RecordValue). r.size) e);
    }

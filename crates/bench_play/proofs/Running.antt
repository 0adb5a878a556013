-- A play, from its events.
use Rattle.std.proofs.Common.{◌≡◌, inl, inr, ℕ, ◌+◌, ◌<◌, List, [], ◌∷◌, ◌++◌, length, take}
use Rattle.std.proofs.Common.{get_or, refl, sym, ap, subst, ◌∙◌, Some, arith}
use Rattle.std.specs.Prelude.{slice_get}
use Rattle.std.proofs.lemmas.List.{take_more}
use Rattle.std.proofs.lemmas.Option.{slice_get-get_or}
use Rattle.std.proofs.Common.{◌≤◌}
use Rattle.bench_model.specs.Bench.{AreImages, BenchValue, Contents, region_of}
use Rattle.bench_model.specs.Boards.{BoardValue}
use Rattle.bench_model.specs.declared.limits.TheConstants.{MAX_BANK, MIN_BANK}
use Rattle.cap_boot.specs.Stands.{HasRegions, Setting, StandsForEither}
use Rattle.cap_boot.proofs.Imaged.{one_of_two}
use Rattle.reference_machine.specs.Events.{InputBytes, Run, Step}
use Rattle.reference_machine.specs.Formats.{Formats}
use Rattle.reference_machine.specs.Laws.{IsReached}
use Rattle.reference_machine.specs.Laws.IsReached.{ByEvent}
use Rattle.reference_machine.specs.Machine.{Machine}
use Rattle.reference_machine.specs.TraceValues.{EntryValue, entry_value}
use Rattle.reference_machine.specs.declared.trace.Entry.{Entry}
use Rattle.std.proofs.Common.{map}
use Rattle.std.proofs.lemmas.List.{length-append, length-map}
use Rattle.reference_machine.specs.declared.event.Event.{Event}
use Rattle.bench_play.specs.declared.known.Known.{Known}
use Rattle.bench_play.specs.Happens.{CutFromEither, FromEither, Happens, IsCutOff}
use Rattle.bench_play.specs.Happens.{KeepsLengths}
use Rattle.bench_play.specs.Happens.{IsKnown}
use Rattle.bench_play.specs.Played.{CutAfter, IsCutIn, IsCutShort, IsPlayed, StandsByCut}
use Rattle.bench_play.specs.Played.{StandsByRun}

-- one event more
run_more : (f : Formats) (bytes_of : InputBytes) (m k new : Machine) (events : List Event)
    (told : List EntryValue) (event : Event) (t : EntryValue) → Run f bytes_of m events told k
    → Step f bytes_of k event t new → Run f bytes_of m (events ++ event ∷ []) (told ++ t ∷ []) new
run_more f bytes_of m k new [] [] event t run step =
    (new, subst (λ (x : Machine). Step f bytes_of x event t new) run step, refl)
run_more f bytes_of m k new [] (u ∷ told) event t run step = absurd run
run_more f bytes_of m k new (e ∷ events) [] event t run step = absurd run
run_more f bytes_of m k new (e ∷ events) (u ∷ told) event t run step =
    (run.0, run.1, run_more f bytes_of run.0 k new events told event t run.2 step)

-- as far as a play has come: two runs, and what is known of their machines
pub record IsUnderway (x : Setting) (bytes_of : InputBytes) (m : Machine) (events : List Event)
    (told : List EntryValue) (k : Known) (s : Contents) : Type 0 where
  pub one : Machine
  pub other : Machine
  pub one_run : Run x.formats bytes_of m events told one
  pub other_run : Run x.formats bytes_of m events told other
  pub one_known : IsKnown x k one
  pub other_known : IsKnown x k other
  pub either : StandsForEither x s one other

pub underway_none : (x : Setting) (bytes_of : InputBytes) (m : Machine) (k : Known) (s : Contents)
    → IsKnown x k m → StandsForEither x s m m → IsUnderway x bytes_of m [] [] k s
underway_none x bytes_of m k s known either = record {
  one = m;
  other = m;
  one_run = refl;
  other_run = refl;
  one_known = known;
  other_known = known;
  either = either;
}

pub played_so_far : (x : Setting) (bytes_of : InputBytes) (m : Machine) (events : List Event)
    (told : List EntryValue) (k : Known) (s : Contents)
    → IsUnderway x bytes_of m events told k s → IsPlayed x bytes_of m events told s
played_so_far x bytes_of m events told k s u = record {
  one = u.one;
  other = u.other;
  one_run = u.one_run;
  other_run = u.other_run;
  either = u.either;
}

module _ (x : Setting) (bytes_of : InputBytes) (m : Machine) (events : List Event)
    (told : List EntryValue) (event : Event) (k : Known) (s : Contents)
    (u : IsUnderway x bytes_of m events told k s) where
  pub underway_more : (t : EntryValue) (l : Known) (next : Contents)
      → Happens x bytes_of event t k s l next
      → IsUnderway x bytes_of m (events ++ event ∷ []) (told ++ t ∷ []) l next
  underway_more t l next h =
      let a = h.from u.one u.other u.one_known u.other_known u.either in
      record {
        one = a.one;
        other = a.other;
        one_run = run a.one a.one_from;
        other_run = run a.other a.other_from;
        one_known = record {
          reached = reached a.one a.one_from;
          now = a.one_now;
          failed = a.one_failed;
        };
        other_known = record {
          reached = reached a.other a.other_from;
          now = a.other_now;
          failed = a.other_failed;
        };
        either = a.either;
      }
    where
      run : (new : Machine) → FromEither x bytes_of u.one u.other event t new
          → Run x.formats bytes_of m (events ++ event ∷ []) (told ++ t ∷ []) new
      run new (inl step) =
          run_more x.formats bytes_of m u.one new events told event t u.one_run step
      run new (inr step) =
          run_more x.formats bytes_of m u.other new events told event t u.other_run step

      reached : (new : Machine) → FromEither x bytes_of u.one u.other event t new
          → IsReached x.formats x.board new
      reached new (inl step) = ByEvent bytes_of u.one event t new u.one_known.reached step
      reached new (inr step) = ByEvent bytes_of u.other event t new u.other_known.reached step

  pub underway_cut : (next : Contents) → IsCutOff x bytes_of event k s next
      → IsCutIn x bytes_of m events told event next
  underway_cut next h =
      let a = h.from u.one u.other u.one_known u.other_known u.either in
      record {
        one = a.one;
        other = a.other;
        one_cut = cut a.one a.one_from;
        other_cut = cut a.other a.other_from;
        either = a.either;
      }
    where
      cut : (new : Machine) → CutFromEither x bytes_of u.one u.other event new
          → CutAfter x bytes_of m events told event new
      cut new (inl is) = record { before = u.one; run = u.one_run; cut = is }
      cut new (inr is) = record { before = u.other; run = u.other_run; cut = is }

-- a front of the events with one more
pub take_with : (events : List Event) (i : ℕ) (d : Event) → d ≡ get_or events i d
    → i < length events → take (i + 1) events ≡ take i events ++ d ∷ []
take_with events i d is_at lt =
    take_more events i d lt ∙ ap (λ (e : Event). take i events ++ e ∷ []) (sym is_at)

-- in the loop over the events
module _ (x : Setting) (bytes_of : InputBytes) (m : Machine) (events : List Event) (i : ℕ)
    (d : Event) (is_at : d ≡ get_or events i d) (told : List EntryValue) (k : Known) (s : Contents)
    (lt : i < length events)
    (u : IsUnderway x bytes_of m (take i events) told k s) (count : length told ≡ i) where
  pub underway_next : (t : EntryValue) (l : Known) (next : Contents)
      → Happens x bytes_of d t k s l next
      → IsUnderway x bytes_of m (take (i + 1) events) (told ++ t ∷ []) l next
  underway_next t l next h =
      subst (λ (es : List Event). IsUnderway x bytes_of m es (told ++ t ∷ []) l next)
      (sym (take_with events i d is_at lt))
      (underway_more x bytes_of m (take i events) told d k s u t l next h)

  at_count : (P : ℕ → Type 0) → P i → P (length told)
  at_count P p = subst P (sym count) p

  is_next : slice_get events (length told) ≡ Some d
  is_next = at_count (λ n. slice_get events n ≡ Some d)
      (slice_get-get_or events i d lt ∙ ap (λ (e : Event). Some e) (sym is_at))

  pub short_between : IsCutShort x bytes_of m events told s
  short_between = record {
    next = d;
    is_next = is_next;
    at = inl (at_count (λ n. IsPlayed x bytes_of m (take n events) told s)
        (played_so_far x bytes_of m (take i events) told k s u));
  }

  pub short_within : (next : Contents) → IsCutOff x bytes_of (d) k s next
      → IsCutShort x bytes_of m events told next
  short_within next h = record {
    next = d;
    is_next = is_next;
    at = inr (at_count
        (λ n. IsCutIn x bytes_of m (take n events) told (d) next)
        (underway_cut x bytes_of m (take i events) told (d) k s u next h));
  }

-- image by image
pub played_image : (x : Setting) (bytes_of : InputBytes) (m : Machine) (events : List Event)
    (told : List EntryValue) (s : Contents) (image : ℕ → List ℕ)
    → IsPlayed x bytes_of m events told s → AreImages s image
    → StandsByRun x bytes_of m events told s image
played_image x bytes_of m events told s image p is =
    elim (one_of_two x s p.one p.other p.either image is) [
      | inl one ↦ record { machine = p.one; run = p.one_run; stands = one }
      | inr other ↦ record { machine = p.other; run = p.other_run; stands = other }
    ]

pub short_image : (x : Setting) (bytes_of : InputBytes) (m : Machine) (events : List Event)
    (told : List EntryValue) (s : Contents) (image : ℕ → List ℕ)
    → IsCutShort x bytes_of m events told s → AreImages s image
    → StandsByCut x bytes_of m events told s image
short_image x bytes_of m events told s image p is = elim p.at [
  | inl played ↦ (
      let b = played_image x bytes_of m (take (length told) events) told s image played is in
      record {
        next = p.next;
        is_next = p.is_next;
        machine = b.machine;
        from = inl b.run;
        stands = b.stands;
      }
      )
  | inr cut ↦ elim (one_of_two x s cut.one cut.other cut.either image is) [
    | inl one ↦ record {
      next = p.next;
      is_next = p.is_next;
      machine = cut.one;
      from = inr cut.one_cut;
      stands = one;
    }
    | inr other ↦ record {
      next = p.next;
      is_next = p.is_next;
      machine = cut.other;
      from = inr cut.other_cut;
      stands = other;
    }
  ]
]

-- the board's regions are there after an event
pub regions_after : (size_of : ℕ → ℕ) (board : BoardValue) (old new : BenchValue)
    → HasRegions size_of board old → KeepsLengths old new → HasRegions size_of board new
regions_after size_of board old new h k = record {
  banks = record {
    there = subst (λ (n : ℕ). 2 ≤ n) (sym k.count) h.banks.there;
    same = k.long 1 ∙ h.banks.same ∙ sym (k.long 0);
    low = subst (λ (n : ℕ). MIN_BANK ≤ n) (sym (k.long 0)) h.banks.low;
    high = subst (λ (n : ℕ). n ≤ MAX_BANK) (sym (k.long 0)) h.banks.high;
  };
  count = k.count ∙ h.count;
  devices = λ d lt. k.long (region_of d) ∙ h.devices d lt;
}

-- what the lists of a play have
pub length_map : (entries : List Entry) (i : ℕ) → length entries ≡ i
    → length (map entry_value entries) ≡ i
length_map entries i is = length-map entries entry_value ∙ is

pub more_length : (entries more : List Entry) (entry : Entry) (i : ℕ)
    → more ≡ entries ++ entry ∷ [] → length entries ≡ i → length more ≡ i + 1
more_length entries more entry i is count =
    let e : length more ≡ length entries + 1 = ap (λ (l : List Entry). length l) is
    ∙ length-append entries (entry ∷ []) in
    omega (arith, e, count)

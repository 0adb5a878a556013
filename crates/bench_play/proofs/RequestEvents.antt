-- The requests of the operating system as events.
use Rattle.std.proofs.Common.{◌≡◌, ◌⊎◌, inl, inr, ℕ, ◌+◌, Bool, true, false}
use Rattle.std.proofs.Common.{List, refl, sym, ap, subst, ◌∙◌, cond}
use Rattle.std.proofs.Common.{Option, None, Some}
use Rattle.std.specs.Prelude.{IfSome, is_some, option_map}
use Rattle.bench_model.specs.Bench.{BenchValue, Contents}
use Rattle.bench_model.specs.Boards.{IsBoard}
use Rattle.cap_boot.specs.Stands.{OutsideIs, ReadsAs, Setting, StandsForEither}
use Rattle.cap_boot.specs.Stands.{StoreFits}
use Rattle.cap_boot.proofs.Openings.{banks_outside}
use Rattle.reference_machine.specs.Events.{InputBytes, IsIn, Step, cut_machines, failed, in_doubt}
use Rattle.reference_machine.specs.Events.{opened, plain, signalled}
use Rattle.reference_machine.specs.Machine.{Machine}
use Rattle.reference_machine.specs.TraceValues.{AnswerValue, EntryValue}
use Rattle.reference_machine.specs.TraceValues.AnswerValue.{FlashFault}
use Rattle.reference_machine.specs.declared.event.Event.{Event}
use Rattle.reference_machine.specs.declared.event.Event.TheVariants.{Signal}
use Rattle.reference_machine.specs.declared.snapshot.StagedPair.{StagedPair}
use Rattle.stored_vars.specs.Stands.{Holds}
use Rattle.update_inbox.specs.Answers.{NotesOpening}
use Rattle.update_inbox.specs.Batches.{Content, HasStoredRead, MayHaveStored}
use Rattle.update_inbox.specs.Batches.{MayHaveStoredRead, content_of, signal_batch}
use Rattle.update_inbox.specs.Batches.{with_batch_of}
use Rattle.update_inbox.proofs.RequestLaws.{signal_holds}
use Rattle.var_log.specs.Banks.{StoreValue, reclaimed_store, store_of}
use Rattle.var_log.specs.Changes.{Variables, after}
use Rattle.var_log.specs.Logs.{ChangesBanks}
use Rattle.var_log.specs.Opens.{is_old}
use Rattle.var_log.specs.declared.change.Change.{Change}
use Rattle.bench_play.specs.declared.known.Known.{Known}
use Rattle.bench_play.specs.Happens.{CutFromEither, FromEither, Happens, HasHappened, IsCutOff}
use Rattle.bench_play.specs.Happens.{IsKnown, WasCut}
use Rattle.bench_play.proofs.Alike.{either_failed, either_reads}
use Rattle.bench_play.proofs.OutsideEvents.{each_after}

-- ---- what a store of this content stands for

none_some : {A : Type 0} {x : A} → None ≡ Some x → ⊥
none_some e = cc

some_is : {A : Type 0} {a b : A} → Some a ≡ Some b → a ≡ b
some_is is = cc

fits_content : (m : Machine) (o p : Option StoreValue) → content_of p ≡ content_of o
    → StoreFits o m → StoreFits p m
fits_content m None p is fits = absurd fits
fits_content m (Some s) None is fits = absurd (none_some is)
fits_content m (Some s) (Some t) is fits =
    let same = some_is is in
    record {
      variables = subst (λ (v : Variables). Holds v m)
          (sym (ap (λ (c : Content). c.variables) same)) fits.variables;
      number = ap (λ (c : Content). c.seq) same ∙ fits.number;
    }

fits_batch : (batch : Variables → List Change) (m done : Machine) (o p : Option StoreValue)
    → ((v : Variables) → Holds v m → Holds (after v (batch v)) done)
    → done.batches ≡ m.batches + 1 → content_of p ≡ with_batch_of batch (content_of o)
    → StoreFits o m → StoreFits p done
fits_batch batch m done None p holds number is fits = absurd fits
fits_batch batch m done (Some s) None holds number is fits = absurd (none_some is)
fits_batch batch m done (Some s) (Some t) holds number is fits =
    let same = some_is is in
    record {
      variables = subst (λ (v : Variables). Holds v done)
          (sym (ap (λ (c : Content). c.variables) same)) (holds s.variables fits.variables);
      number = ap (λ (c : Content). c.seq) same ∙ ap (λ (n : ℕ). n + 1) fits.number ∙ sym number;
    }

-- the number at opening is that of the machine that is read
noted_number : (old : Bool) (o : Option StoreValue) (m : Machine) (seq : ℕ) → StoreFits o m
    → option_map (λ s. s.seq) (cond old (option_map reclaimed_store o) o) ≡ Some seq
    → seq ≡ m.batches
noted_number old None m seq fits is = absurd fits
noted_number true (Some s) m seq fits is = sym (some_is is) ∙ fits.number
noted_number false (Some s) m seq fits is = sym (some_is is) ∙ fits.number

-- the machine with other things stored that are no devices
abbrev pub asked_more : Machine → List StagedPair → ℕ → Bool → ℕ → Machine
asked_more m staged last signalled batches = record m {
  staged = staged;
  last_staged = last;
  is_signalled = signalled;
  batches = batches;
}

pub outside_asked : (x : Setting) (s : Contents) (m : Machine) (staged : List StagedPair) (last : ℕ)
    (signalled : Bool) (batches : ℕ) → OutsideIs x s m
    → OutsideIs x s (asked_more m staged last signalled batches)
outside_asked x s m staged last signalled batches o = record {
  board = o.board;
  devices = λ d lt bytes is.
      let f = o.devices d lt bytes is in
      record { slot = f.slot; begun = record { are = f.begun.are; tells = f.begun.tells } };
  folder = o.folder;
  memory = o.memory;
}

-- ---- a request over each image

-- what a request makes of a machine that is read, where it is allowed
pub record IsRequest (x : Setting) (bytes_of : InputBytes) (event : Event)
    (batch : Variables → List Change) (m done : Machine) : Type 0 where
  pub holds : (v : Variables) → Holds v m → Holds (after v (batch v)) done
  pub number : done.batches ≡ m.batches + 1
  pub outside : (s : Contents) → OutsideIs x s m → OutsideIs x s done
  pub now : done.now ≡ m.now
  pub row : Step x.formats bytes_of m event (in_doubt m FlashFault) (failed done)
  pub cut : IsIn done (cut_machines x.formats bytes_of m event)

-- the rows that each request has
pub record HasRows (x : Setting) (bytes_of : InputBytes) (event : Event)
    (m : Machine) : Type 0 where
  pub unopened : Step x.formats bytes_of m event (plain FlashFault) (failed m)
  pub opening : Step x.formats bytes_of m event (opened m FlashFault) (failed m)
  pub doubt : Step x.formats bytes_of m event (in_doubt m FlashFault) (failed m)
  pub cut : IsIn m (cut_machines x.formats bytes_of m event)

module _ (x : Setting) (bytes_of : InputBytes) (event : Event) (batch : Variables → List Change)
    (k : Known) (old new : BenchValue) (banks : ChangesBanks old new) where
  outside_kept : (m : Machine) → OutsideIs x old.contents m → OutsideIs x new.contents m
  outside_kept m o = banks_outside x old new m banks o

  told_now : old.contents.told ≡ true → new.contents.told ≡ true
  told_now told = banks.told ∙ told

  -- nothing was stored
  stands_still : (p : Machine) → ReadsAs x old.contents p
      → MayHaveStoredRead batch None old new → StandsForEither x new.contents p p
  stands_still p reads may = record {
    told = told_now reads.told;
    stores = λ image is. inl (fits_content p (store_of old.contents.bytes) (store_of image)
        (may image is) reads.store);
    before = outside_kept p reads.outside;
    after = outside_kept p reads.outside;
  }

  -- the batch was stored
  pub stands_done : (p done : Machine) → ReadsAs x old.contents p
      → IsRequest x bytes_of event batch p done → HasStoredRead batch old new
      → StandsForEither x new.contents done done
  stands_done p done reads r has = record {
    told = told_now reads.told;
    stores = λ image is. inl (fits_batch batch p done (store_of old.contents.bytes)
        (store_of image) r.holds r.number (has image is) reads.store);
    before = r.outside new.contents (outside_kept p reads.outside);
    after = r.outside new.contents (outside_kept p reads.outside);
  }

  -- the batch was stored or not
  stands_doubt : (p done : Machine) (number : ℕ) → ReadsAs x old.contents p
      → IsRequest x bytes_of event batch p done → MayHaveStoredRead batch (Some number) old new
      → StandsForEither x new.contents p done
  stands_doubt p done number reads r may = record {
    told = told_now reads.told;
    stores = λ image is. elim (may image is) [
      | inl kept ↦ inl (fits_content p (store_of old.contents.bytes) (store_of image) kept
          reads.store)
      | inr has ↦ inr (fits_batch batch p done (store_of old.contents.bytes) (store_of image)
          r.holds r.number has reads.store)
    ];
    before = outside_kept p reads.outside;
    after = r.outside new.contents (outside_kept p reads.outside);
  }

  -- the store was not opened
  stands_unopened : (m n : Machine) → StandsForEither x old.contents m n
      → MayHaveStored batch None old new → StandsForEither x new.contents m n
  stands_unopened m n e may = record {
    told = told_now e.told;
    stores = λ image is.
        let b = may image is in
        elim (e.stores b.image b.was) [
          | inl fits ↦ inl (fits_content m (store_of b.image) (store_of image) b.is fits)
          | inr fits ↦ inr (fits_content n (store_of b.image) (store_of image) b.is fits)
        ];
    before = outside_kept m e.before;
    after = outside_kept n e.after;
  }

  -- all that the machine that is read says holds of either
  module _ (m n p : Machine) (of : (p ≡ m) ⊎ (p ≡ n)) where
    from_read : (entry : EntryValue) (new : Machine) → Step x.formats bytes_of p event entry new
        → FromEither x bytes_of m n event entry new
    from_read entry new step = elim of [
      | inl is ↦ inl (subst (λ (q : Machine). Step x.formats bytes_of q event entry new) is step)
      | inr is ↦ inr (subst (λ (q : Machine). Step x.formats bytes_of q event entry new) is step)
    ]

    cut_read : (new : Machine) → IsIn new (cut_machines x.formats bytes_of p event)
        → CutFromEither x bytes_of m n event new
    cut_read new cut = elim of [
      | inl is ↦ inl (subst (λ (q : Machine). IsIn new (cut_machines x.formats bytes_of q event)) is
          cut)
      | inr is ↦ inr (subst (λ (q : Machine). IsIn new (cut_machines x.formats bytes_of q event)) is
          cut)
    ]

    -- a machine told this, and no fault
    pub read_after : (entry : EntryValue) (one : Machine)
        → Step x.formats bytes_of p event entry one → one.now ≡ k.moment
        → (k.failed ≡ true → one.failed ≡ true) → StandsForEither x new.contents one one
        → HasHappened x bytes_of m n event entry k new.contents
    read_after entry one step now lost e = record {
      one = one;
      other = one;
      one_from = from_read entry one step;
      other_from = from_read entry one step;
      one_now = now;
      other_now = now;
      one_failed = lost;
      other_failed = lost;
      either = e;
    }

    -- a fault of the flash behind the opening
    module _ (known : IsKnown x k p) (reads : ReadsAs x old.contents p)
        (rows : HasRows x bytes_of event p) where
      fault_still : (seq : ℕ) → seq ≡ p.batches → MayHaveStoredRead batch None old new
          → HasHappened x bytes_of m n event
          (record { opened = Some seq; pending = None; answer = FlashFault })
          (record k { failed = true }) new.contents
      fault_still seq is may =
          let step = subst (λ (number : ℕ). Step x.formats bytes_of p event
          (record { opened = Some number; pending = None; answer = FlashFault }) (failed p))
          (sym is) rows.opening in
          let entry : EntryValue =
          record { opened = Some seq; pending = None; answer = FlashFault } in
          record {
            one = failed p;
            other = failed p;
            one_from = from_read entry (failed p) step;
            other_from = from_read entry (failed p) step;
            one_now = known.now;
            other_now = known.now;
            one_failed = λ b. refl;
            other_failed = λ b. refl;
            either = either_failed x new.contents p p (stands_still p reads may);
          }

      fault_doubt : (seq number : ℕ) → seq ≡ p.batches → number ≡ seq + 1 → (done : Machine)
          → IsRequest x bytes_of event batch p done
          → MayHaveStoredRead batch (Some number) old new
          → HasHappened x bytes_of m n event
          (record { opened = Some seq; pending = Some number; answer = FlashFault })
          (record k { failed = true }) new.contents
      fault_doubt seq number is next done r may =
          let told : (q : Machine) → Step x.formats bytes_of p event (in_doubt p FlashFault) q
          → Step x.formats bytes_of p event
          (record { opened = Some seq; pending = Some number; answer = FlashFault }) q =
          λ q step. subst (λ (a : ℕ). Step x.formats bytes_of p event
          (record { opened = Some a; pending = Some number; answer = FlashFault }) q) (sym is)
          (subst (λ (a : ℕ). Step x.formats bytes_of p event
          (record { opened = Some p.batches; pending = Some a; answer = FlashFault }) q)
          (sym (next ∙ ap (λ (a : ℕ). a + 1) is)) step) in
          let entry : EntryValue =
          record { opened = Some seq; pending = Some number; answer = FlashFault } in
          record {
            one = failed p;
            other = failed done;
            one_from = from_read entry (failed p) (told (failed p) rows.doubt);
            other_from = from_read entry (failed done) (told (failed done) r.row);
            one_now = known.now;
            other_now = r.now ∙ known.now;
            one_failed = λ b. refl;
            other_failed = λ b. refl;
            either =
                either_failed x new.contents p done (stands_doubt p done number reads r may);
          }

      cut_still : MayHaveStoredRead batch None old new → WasCut x bytes_of m n event new.contents
      cut_still may = record {
        one = p;
        other = p;
        one_from = cut_read p rows.cut;
        other_from = cut_read p rows.cut;
        either = stands_still p reads may;
      }

      cut_doubt : (number : ℕ) (done : Machine) → IsRequest x bytes_of event batch p done
          → MayHaveStoredRead batch (Some number) old new
          → WasCut x bytes_of m n event new.contents
      cut_doubt number done r may = record {
        one = p;
        other = done;
        one_from = cut_read p rows.cut;
        other_from = cut_read done r.cut;
        either = stands_doubt p done number reads r may;
      }

  by_read : {P : Type 0} (m n : Machine) → IsKnown x k m → IsKnown x k n
      → StandsForEither x old.contents m n
      → ((p : Machine) → (p ≡ m) ⊎ (p ≡ n) → IsKnown x k p → ReadsAs x old.contents p → P) → P
  by_read m n known also e found = elim (either_reads x old.contents m n e) [
    | inl reads ↦ found m (inl refl) known reads
    | inr reads ↦ found n (inr refl) also reads
  ]

  -- by what was noted
  module _ (rows : (p : Machine) → HasRows x bytes_of event p) (Allowed : Machine → Type 0)
      (done : Machine → Machine)
      (request : (p : Machine) → IsKnown x k p → Allowed p
      → IsRequest x bytes_of event batch p (done p)) where
    -- what a request that was stopped leaves, by its note
    pub record WasStopped (opened pending : Option ℕ) : Type 0 where
      pub images : MayHaveStored batch pending old new
      pub kept : IfSome opened (λ seq. MayHaveStoredRead batch pending old new)
      pub opening : NotesOpening old opened
      pub batch_is : (pending ≡ None) ⊎ (pending ≡ option_map (λ n. n + 1) opened)
      pub allowed : IfSome pending (λ number. (p : Machine) → IsKnown x k p
          → ReadsAs x old.contents p → Allowed p)

    number_of : (seq : ℕ) (p : Machine) → ReadsAs x old.contents p → NotesOpening old (Some seq)
        → seq ≡ p.batches
    number_of seq p reads notes =
        noted_number (is_old old.contents.bytes) (store_of old.contents.bytes) p seq reads.store
        (notes reads.told)

    is_next : (seq number : ℕ)
        → (Some number ≡ None) ⊎ (Some number ≡ option_map (λ n. n + 1) (Some seq))
        → number ≡ seq + 1
    is_next seq number (inl is) = absurd (none_some (sym is))
    is_next seq number (inr is) = some_is is

    no_batch : (number : ℕ)
        → (Some number ≡ None) ⊎ (Some number ≡ option_map (λ n. n + 1) None) → ⊥
    no_batch number (inl is) = none_some (sym is)
    no_batch number (inr is) = none_some (sym is)

    pub request_fails : (opened pending : Option ℕ) → WasStopped opened pending
        → Happens x bytes_of event
        (record { opened = opened; pending = pending; answer = FlashFault }) k old.contents
        (record k { failed = true }) new.contents
    request_fails None None w = record {
      from = λ m n known also e.
          each_after x bytes_of m n event (plain FlashFault) (record k { failed = true })
          new.contents (failed m) (failed n) (rows m).unopened (rows n).unopened known.now
          also.now (λ b. refl) (λ b. refl)
          (either_failed x new.contents m n (stands_unopened m n e w.images));
    }
    request_fails None (Some number) w = absurd (no_batch number w.batch_is)
    request_fails (Some seq) None w = record {
      from = λ m n known also e. by_read m n known also e (λ p of its reads.
          fault_still m n p of its reads (rows p) seq (number_of seq p reads w.opening) w.kept);
    }
    request_fails (Some seq) (Some number) w = record {
      from = λ m n known also e. by_read m n known also e (λ p of its reads.
          fault_doubt m n p of its reads (rows p) seq number (number_of seq p reads w.opening)
          (is_next seq number w.batch_is) (done p) (request p its (w.allowed p its reads))
          w.kept);
    }

    pub request_cut : (opened pending : Option ℕ) → WasStopped opened pending
        → IsCutOff x bytes_of event k old.contents new.contents
    request_cut None None w = record {
      from = λ m n known also e. record {
        one = m;
        other = n;
        one_from = inl (rows m).cut;
        other_from = inr (rows n).cut;
        either = stands_unopened m n e w.images;
      };
    }
    request_cut None (Some number) w = absurd (no_batch number w.batch_is)
    request_cut (Some seq) None w = record {
      from = λ m n known also e. by_read m n known also e (λ p of its reads.
          cut_still m n p of its reads (rows p) w.kept);
    }
    request_cut (Some seq) (Some number) w = record {
      from = λ m n known also e. by_read m n known also e (λ p of its reads.
          cut_doubt m n p of its reads (rows p) number (done p)
          (request p its (w.allowed p its reads)) w.kept);
    }

    -- what a request that was done leaves
    pub request_done : (answer : Machine → AnswerValue)
        → ((p : Machine) → IsKnown x k p → Allowed p
        → Step x.formats bytes_of p event (opened p (answer p)) (done p))
        → ((p : Machine) → (k.failed ≡ true → p.failed ≡ true) → k.failed ≡ true
        → (done p).failed ≡ true)
        → (at : Option ℕ) → is_some at ≡ true → NotesOpening old at
        → HasStoredRead batch old new → (said : AnswerValue)
        → ((p : Machine) → IsKnown x k p → ReadsAs x old.contents p
        → Allowed p × (said ≡ answer p))
        → Happens x bytes_of event (record { opened = at; pending = None; answer = said }) k
        old.contents k new.contents
    request_done answer row lost None some notes has said allowed =
        absurd (let e : false ≡ true = some in cc)
    request_done answer row lost (Some seq) some notes has said allowed = record {
      from = λ m n known also e. by_read m n known also e (λ p of its reads.
          let a = allowed p its reads in
          let r = request p its a.0 in
          read_after m n p of (record { opened = Some seq; pending = None; answer = said })
          (done p)
          (subst (λ (b : ℕ). Step x.formats bytes_of p event
          (record { opened = Some b; pending = None; answer = said }) (done p))
          (sym (number_of seq p reads notes))
          (subst (λ (b : AnswerValue). Step x.formats bytes_of p event
          (record { opened = Some p.batches; pending = None; answer = b }) (done p)) (sym a.1)
          (row p its a.0))) (r.now ∙ its.now) (lost p its.failed)
          (stands_done p (done p) reads r has));
    }

    -- what a request that was refused leaves
    pub request_refused : (at pending : Option ℕ) → is_some at ≡ true → NotesOpening old at
        → IfSome at (λ seq. MayHaveStoredRead batch pending old new)
        → IfSome pending (λ number. (p : Machine) → ReadsAs x old.contents p → ⊥)
        → (said : AnswerValue)
        → ((p : Machine) → IsKnown x k p → ReadsAs x old.contents p
        → Step x.formats bytes_of p event (opened p said) p)
        → Happens x bytes_of event (record { opened = at; pending = None; answer = said }) k
        old.contents k new.contents
    request_refused None pending some notes kept never said row =
        absurd (let e : false ≡ true = some in cc)
    request_refused (Some seq) (Some number) some notes kept never said row = record {
      from = λ m n known also e. by_read m n known also e (λ p of its reads.
          absurd (never p reads));
    }
    request_refused (Some seq) None some notes kept never said row = record {
      from = λ m n known also e. by_read m n known also e (λ p of its reads.
          read_after m n p of (record { opened = Some seq; pending = None; answer = said }) p
          (subst (λ (b : ℕ). Step x.formats bytes_of p event
          (record { opened = Some b; pending = None; answer = said }) p)
          (sym (number_of seq p reads notes)) (row p its reads)) its.now its.failed
          (stands_still p reads kept));
    }

pub if_some : {A P : Type 0} (o : Option A) → P → IfSome o (λ a. P)
if_some None p = tt
if_some (Some a) p = p

-- ---- the request for the capsule files

pub signal_rows : (x : Setting) (bytes_of : InputBytes) (m : Machine) → HasRows x bytes_of Signal m
signal_rows x bytes_of m = record {
  unopened = inl (inr (inl refl));
  opening = inl (inr (inr (inl refl)));
  doubt = inl (inr (inr (inr (inl refl))));
  cut = inl refl;
}

pub signal_request : (x : Setting) (bytes_of : InputBytes) (m : Machine) → IsBoard m.board
    → IsRequest x bytes_of Signal signal_batch m (signalled m)
signal_request x bytes_of m board = record {
  holds = λ v h. signal_holds v m board h;
  number = refl;
  outside = λ s o. outside_asked x s m m.staged m.last_staged true (m.batches + 1) o;
  now = refl;
  row = inl (inr (inr (inr (inr (inl refl)))));
  cut = inr (inl refl);
}

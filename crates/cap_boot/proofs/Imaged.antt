-- A bench image by image.
use Rattle.std.proofs.Common.{◌≡◌, ◌⊎◌, inl, inr, ℕ, ◌≤◌, ◌&&◌, List, [], ◌∷◌, ◌++◌, map, filter}
use Rattle.std.proofs.Common.{refl}
use Rattle.std.proofs.Common.{sym, ap, subst, Bool, true, false, cond}
use Rattle.bench_model.specs.Bench.{AreImages, Contents, region_of}
use Rattle.bench_model.specs.Boards.{BoardValue}
use Rattle.cu_base.specs.declared.ticket.Ticket.{Ticket}
use Rattle.reference_machine.specs.Events.{IsIn}
use Rattle.reference_machine.specs.Formats.{Formats}
use Rattle.reference_machine.specs.Laws.{IsReached}
use Rattle.reference_machine.specs.Machine.{Machine}
use Rattle.reference_machine.specs.Spent.{Element, floor_of, is_attempt, is_on}
use Rattle.reference_machine.proofs.Filing.{same_of}
use Rattle.reference_machine.proofs.Reached.{attempts}
use Rattle.reference_machine.proofs.Tests.{both_left, both_right}
use Rattle.var_log.specs.Banks.{store_of}
use Rattle.cap_boot.specs.Begun.{IsOfAttempt}
use Rattle.cap_boot.specs.Stands.{OutsideIs, Setting, StandsForEither, StandsIn, StoreFits}
use Rattle.cap_boot.specs.Tickets.{AreBegun, IsSublist}
use Rattle.cap_boot.specs.Tickets.IsSublist.{none, skip, keep}

stands_by : (x : Setting) (s : Contents) (m : Machine) (image : ℕ → List ℕ) → OutsideIs x s m
    → AreImages s image → StoreFits (store_of image) m → StandsIn x image s m
stands_by x s m image o is store = record {
  board = o.board;
  store = store;
  devices = λ d lt. o.devices d lt (image (region_of d)) (is (region_of d));
  folder = o.folder;
  memory = o.memory;
}

pub one_of_two : (x : Setting) (s : Contents) (m n : Machine) → StandsForEither x s m n
    → (image : ℕ → List ℕ) → AreImages s image → StandsIn x image s m ⊎ StandsIn x image s n
one_of_two x s m n e image is =
    elim (e.stores image is) [
      | inl store ↦ inl (stands_by x s m image e.before is store)
      | inr store ↦ inr (stands_by x s n image e.after is store)
    ]

in_sublist : {xs ys : List Ticket} (t : Ticket) → IsSublist xs ys → IsIn t xs → IsIn t ys
in_sublist t none is = is
in_sublist t (skip sub) is = inr (in_sublist t sub is)
in_sublist t (keep sub) (inl e) = inl e
in_sublist t (keep sub) (inr is) = inr (in_sublist t sub is)

-- an element of a list that passes a test
record IsPlaced (p : Element → Bool) (t : Ticket) (list : List Element) : Type 0 where
  before : List Element
  rest : List Element
  e : Element
  is : list ≡ before ++ e ∷ rest
  passes : p e ≡ true
  its : e.key.ticket ≡ t

placed_step : (p : Element → Bool) (t : Ticket) (e : Element) (es : List Element) (test : Bool)
    → p e ≡ test → IsIn t (map (λ x. x.key.ticket) (cond test (e ∷ filter p es) (filter p es)))
    → (IsIn t (map (λ x. x.key.ticket) (filter p es)) → IsPlaced p t es)
    → IsPlaced p t (e ∷ es)
placed_step p t e es true passes (inl same) next =
    record { before = []; rest = es; e = e; is = refl; passes = passes; its = sym same }
placed_step p t e es true passes (inr is) next =
    let q = next is in
    record {
      before = e ∷ q.before;
      rest = q.rest;
      e = q.e;
      is = ap (λ (l : List Element). e ∷ l) q.is;
      passes = q.passes;
      its = q.its;
    }
placed_step p t e es false passes is next =
    let q = next is in
    record {
      before = e ∷ q.before;
      rest = q.rest;
      e = q.e;
      is = ap (λ (l : List Element). e ∷ l) q.is;
      passes = q.passes;
      its = q.its;
    }

placed : (p : Element → Bool) (t : Ticket) (list : List Element)
    → IsIn t (map (λ x. x.key.ticket) (filter p list)) → IsPlaced p t list
placed p t [] is = absurd is
placed p t (e ∷ es) is = placed_step p t e es (p e) refl is (placed p t es)

pub of_attempt : (f : Formats) (board : BoardValue) (m : Machine) → IsReached f board m
    → (d : ℕ) (begun : List Ticket) → AreBegun m.board m.list d begun
    → (ticket : Ticket) → IsIn ticket begun → IsOfAttempt m d ticket
of_attempt f board m reached d begun are ticket is =
    let q = placed (λ e. is_on d e && is_attempt e) ticket m.list
    (in_sublist ticket are.within is) in
    let on = both_left (is_on d q.e) (is_attempt q.e) q.passes in
    let attempt = both_right (is_on d q.e) (is_attempt q.e) q.passes in
    record {
      before = q.before;
      rest = q.rest;
      e = q.e;
      is = q.is;
      on = on;
      attempt = attempt;
      is_its = q.its;
      floor = subst (λ (n : ℕ). floor_of m.board q.before n ≤ q.e.version)
          (same_of q.e.key.device d on)
          (attempts f board m reached q.before q.rest q.e q.is attempt);
    }

use Rattle.std.proofs.Common.{◌≡◌, ℕ, ◌+◌, ◌-◌, ◌≤◌, ◌++◌, length, drop, sym, ap, subst, ◌∙◌}
use Rattle.std.proofs.Common.{arith}
use Rattle.cu_base.specs.Bytes.{IsBytes}
use Rattle.image_parts.specs.Scan.{ScanValue, StandsFor, window_place}
use Rattle.image_parts.proofs.Scanned.{kept_bound, scan_made, stands_more}
use Rattle.image_parts.proofs.scanning.PartScan.piece.Goals as goal

pub returns-in_err-push-clause-bound : goal.returns-in_err-push-clause-bound
returns-in_err-push-clause-bound c =
    let v = scan_made c.self.inside.size c.self.inside.support c.self.inside.came
    c.self.inside.front c.self.inside.window in
    let bound = kept_bound v c.self.invariant.stream c.self.invariant.stands in
    omega (arith, bound, ap length c.in_err-push.ensures.err)

pub invariant_of-self-2 : goal.invariant_of-self-2
invariant_of-self-2 c =
    let v = scan_made c.self.inside.size c.self.inside.support c.self.inside.came
    c.self.inside.front c.self.inside.window in
    let bytes = c.args.bytes.now in
    let is : IsBytes bytes = λ i. omega (arith, c.type_inv.bytes i) in
    let fits : v.came + length bytes ≤ v.size =
    subst (λ (x : ScanValue). x.came + length bytes ≤ x.size) (sym c.self.view_is) c.requires in
    let front = c.with-front.result in
    let place : c.window_place-place.result ≡ window_place v.support front =
    c.window_place-place.ensures ∙ ap (window_place v.support) c.as_slice.ensures in
    let behind : c.behind_place-behind.result.now ≡ drop (window_place v.support front - v.came)
    bytes =
    c.behind_place-behind.ensures ∙ ap (λ (n : ℕ). drop (n - v.came) bytes) place in
    record {
      stream = c.self.invariant.stream ++ bytes;
      stands = stands_more v c.self.invariant.stream bytes c.behind_place-behind.result.now front
          c.push.new.self c.self.invariant.stands is fits c.with-front.ensures behind
          c.in_ok-push.ensures.ok;
    }

pub returns-clause-ok : goal.returns-clause-ok
returns-clause-ok c = λ stream h.
    let v = scan_made c.self.inside.size c.self.inside.support c.self.inside.came
    c.self.inside.front c.self.inside.window in
    let bytes = c.args.bytes.now in
    let is : IsBytes bytes = λ i. omega (arith, c.type_inv.bytes i) in
    let fits : v.came + length bytes ≤ v.size =
    subst (λ (x : ScanValue). x.came + length bytes ≤ x.size) (sym c.self.view_is) c.requires in
    let front = c.with-front.result in
    let place : c.window_place-place.result ≡ window_place v.support front =
    c.window_place-place.ensures ∙ ap (window_place v.support) c.as_slice.ensures in
    let behind : c.behind_place-behind.result.now ≡ drop (window_place v.support front - v.came)
    bytes =
    c.behind_place-behind.ensures ∙ ap (λ (n : ℕ). drop (n - v.came) bytes) place in
    stands_more v stream bytes c.behind_place-behind.result.now front
    c.push.new.self (subst (λ (x : ScanValue). StandsFor x stream) (sym c.self.view_is) h) is fits
    c.with-front.ensures behind c.in_ok-push.ensures.ok

pub returns-clause-bound : goal.returns-clause-bound
returns-clause-bound c =
    let now = invariant_of-self-2 c in
    kept_bound (scan_made c.self.inside.size c.self.inside.support
    (c.self.inside.came + length c.args.bytes.now) c.with-front.result c.push.new.self)
    now.stream now.stands

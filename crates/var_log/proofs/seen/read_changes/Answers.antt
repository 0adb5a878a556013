use Rattle.std.proofs.Common.{◌≡◌, ◌≤◌, ◌∙◌, ◌-◌, suc, ◌++◌, ◌∷◌, [], List, ℕ, ap, sym, arith, map}
use Rattle.std.proofs.Common.{option_map, length, take, drop}
use Rattle.std.proofs.lemmas.List.{map_push, take-append-le, length-take}
use Rattle.std.proofs.Math.Seq.{take-length}
use Rattle.var_log.specs.declared.change.Change.{Change}
use Rattle.var_log.specs.Records.{changes_from}
use Rattle.var_log.specs.Seen.{as_change, first_seen}
use Rattle.var_log.proofs.ReadLemmas.{short_body, body_begins, change_more, nothing_more, all_read}
use Rattle.var_log.proofs.seen.read_changes.Goals as goal

pub returns-then-body-lt2-clause-value : goal.returns-then-body-lt2-clause-value
returns-then-body-lt2-clause-value c =
    ap (option_map (λ cs. map as_change c.args.out.now.items ++ cs)) (short_body c.args.body.now (omega arith))

pub loop-left-init : goal.loop-left-init
loop-left-init c =
    let old = c.args.out.now.items in (
      ap (option_map (λ (cs : List Change). map as_change old ++ cs))
          (body_begins c.args.body.now c.if-body-lt2.false
          ∙ ap (λ (n : ℕ). changes_from n (drop 2 c.args.body.now)) (sym c.u16_at-left.ensures)
          ∙ ap (changes_from c.u16_at-left.result) (sym c.behind-rest.ensures)),
      take-length old,
    )

pub returns-in_default-clause-value : goal.returns-in_default-clause-value
returns-in_default-clause-value c =
    let now = c.loop-left.out.items in
    let some : c.loop-left.left ≡ suc (c.loop-left.left - 1) = omega (arith, c.loop-left-test.true) in
    let none = nothing_more (c.loop-left.left - 1) c.loop-left.rest.now
    (sym c.first_change.ensures.value ∙ ap (option_map first_seen) c.in_default.is) in
    c.loop-left.invariant.0
    ∙ ap (λ (n : ℕ). option_map (λ (cs : List Change). map as_change now ++ cs)
    (changes_from n c.loop-left.rest.now)) some
    ∙ ap (option_map (λ (cs : List Change). map as_change now ++ cs)) none

pub loop-left-preserved : goal.loop-left-preserved
loop-left-preserved c =
    let old = c.args.out.now.items in
    let now = c.loop-left.out.items in
    let n = c.loop-left.left - 1 in
    let seen = c.in-Some.seen in
    let some : c.loop-left.left ≡ suc n = omega (arith, c.loop-left-test.true) in
    let first = sym c.in-Some.ensures.value in
    let pushed = c.in_ok-push.ensures.ok in
    let long : length old ≤ length now =
    omega (arith, length-take (length old) now, ap length c.loop-left.invariant.1) in (
      c.loop-left.invariant.0
          ∙ ap (λ (k : ℕ). option_map (λ (cs : List Change). map as_change now ++ cs)
          (changes_from k c.loop-left.rest.now)) some
          ∙ change_more n c.loop-left.rest.now c.in-Some.behind.now (as_change seen) (map as_change now) first
          ∙ ap (λ (xs : List Change). option_map (λ (cs : List Change). xs ++ cs)
          (changes_from n c.in-Some.behind.now))
          (sym (map_push as_change now seen) ∙ ap (map as_change) (sym pushed)),
      ap (take (length old)) pushed ∙ take-append-le (length old) now (seen ∷ []) long
          ∙ c.loop-left.invariant.1,
    )

pub returns-clause-value : goal.returns-clause-value
returns-clause-value c =
    let now = c.loop-left.out.items in
    let none : c.loop-left.left ≡ 0 = omega (arith, c.loop-left-test.false) in
    c.loop-left.invariant.0
    ∙ ap (λ (n : ℕ). option_map (λ (cs : List Change). map as_change now ++ cs)
    (changes_from n c.loop-left.rest.now)) none
    ∙ all_read (map as_change now) c.loop-left.rest.now c.is_empty.result c.is_empty.ensures

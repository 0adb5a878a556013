use Rattle.std.proofs.Common.{◌≡◌, ℕ, ◌-◌, min, List, ◌++◌, length, take, drop, ap, ◌∙◌}
use Rattle.std.proofs.lemmas.List.{take_rest}
use Rattle.std.proofs.lemmas.Result.{on_ok_weaker}
use Rattle.image_parts.specs.Scan.{is_marked, window_size}
use Rattle.image_parts.specs.Support.{has_section}
use Rattle.image_parts.proofs.Windows.{mark, window_pushed}
use Rattle.image_parts.proofs.window.Window.push.Goals as goal

pub returns-clause-ok : goal.returns-clause-ok
returns-clause-ok c =
    let due = has_section c.args.support in
    let window : List ℕ = c.args.self.now in
    let more = c.args.more.now in
    let added = c.min-added.result in
    let kept = c.as_slice-kept.ensures in
    let room : added ≡ min (window_size due - length window) (length more) =
    c.min-added.ensures
    ∙ ap (λ (n : ℕ). min n (length more)) (c.saturating_sub.ensures
    ∙ ap (λ (n : ℕ). n - length c.as_slice-kept.result.now) c.window_size-limit.ensures
    ∙ ap (λ (l : List ℕ). window_size due - length l) kept) in
    let marks : c.is_marked-marks.result ≡ is_marked due (length window) (drop added more) =
    c.is_marked-marks.ensures
    ∙ ap (λ (l : List ℕ). is_marked due (length c.as_slice-kept.result.now) l)
    (take_rest more added)
    ∙ ap (λ (l : List ℕ). is_marked due (length l) (drop added more)) kept in
    on_ok_weaker c.push_all.result
    (λ now rest is. window_pushed due c.is_marked-marks.result rest more window
    c.push_all.new.kept.items added is room marks
    (now ∙ ap (λ (l : List ℕ). l ++ take added more ++ mark c.is_marked-marks.result)
    c.self.view_is))
    c.push_all.ensures.ok

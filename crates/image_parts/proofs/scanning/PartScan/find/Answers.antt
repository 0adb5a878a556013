use Rattle.std.proofs.Common.{◌≡◌, ℕ, ◌≤◌, List, length, None, sym, ap, subst}
use Rattle.std.proofs.Common.{◌∙◌, arith}
use Rattle.std.proofs.lemmas.List.{length-drop, take_rest}
use Rattle.cu_base.specs.Refusals.{first_refusal}
use Rattle.image_parts.specs.Cuts.{auth_end, auth_rows_of}
use Rattle.image_parts.specs.Scan.{ScanValue}
use Rattle.image_parts.specs.Section.{TakesSection}
use Rattle.image_parts.specs.Support.{has_section}
use Rattle.image_parts.proofs.Scanned.{front_room, head_room, room, scan_made}
use Rattle.image_parts.proofs.scanning.PartScan.find.Goals as goal

pub auth_size-requires : goal.auth_size-requires
auth_size-requires c =
    let whole = subst (λ (v : ScanValue). v.came ≡ v.size) (sym c.self.view_is) c.requires in
    let v = scan_made c.self.inside.size c.self.inside.support c.self.inside.came
    c.self.inside.front c.self.inside.window in
    record {
      front = λ long. subst (λ (l : List ℕ). 32 ≤ length l) (sym c.as_slice.ensures)
          (front_room v c.self.invariant.stream c.self.invariant.stands whole long);
    }

pub section_size-requires : goal.section_size-requires
section_size-requires c =
    let whole = subst (λ (v : ScanValue). v.came ≡ v.size) (sym c.self.view_is) c.requires in
    let v = scan_made c.self.inside.size c.self.inside.support c.self.inside.came
    c.self.inside.front c.self.inside.window in
    let stands = c.self.invariant.stands in
    let rows : first_refusal (auth_rows_of v.front v.size v.support) ≡ None =
    subst (λ (l : List ℕ). first_refusal (auth_rows_of l v.size v.support) ≡ None)
    c.as_slice.ensures c.in_ok-auth.ensures.rows in
    let end : c.in_ok-auth.auth ≡ auth_end v.front v.support =
    c.in_ok-auth.ensures.end ∙ ap (λ (l : List ℕ). auth_end l v.support) c.as_slice.ensures in
    let r = room v c.self.invariant.stream stands whole rows in
    omega (arith, r.high, end, ap length c.as_slice-2.ensures, stands.small)

pub overflow_sub-rest : goal.overflow_sub-rest
overflow_sub-rest c =
    let whole = subst (λ (v : ScanValue). v.came ≡ v.size) (sym c.self.view_is) c.requires in
    let v = scan_made c.self.inside.size c.self.inside.support c.self.inside.came
    c.self.inside.front c.self.inside.window in
    let stands = c.self.invariant.stands in
    let rows : first_refusal (auth_rows_of v.front v.size v.support) ≡ None =
    subst (λ (l : List ℕ). first_refusal (auth_rows_of l v.size v.support) ≡ None)
    c.as_slice.ensures c.in_ok-auth.ensures.rows in
    let end : c.in_ok-auth.auth ≡ auth_end v.front v.support =
    c.in_ok-auth.ensures.end ∙ ap (λ (l : List ℕ). auth_end l v.support) c.as_slice.ensures in
    let r = room v c.self.invariant.stream stands whole rows in
    omega (arith, r.high, end, ap length c.as_slice-2.ensures, c.in_ok-dep.ensures.within)

pub read_head-requires-clause-place : goal.read_head-requires-clause-place
read_head-requires-clause-place c =
    let whole = subst (λ (v : ScanValue). v.came ≡ v.size) (sym c.self.view_is) c.requires in
    let v = scan_made c.self.inside.size c.self.inside.support c.self.inside.came
    c.self.inside.front c.self.inside.window in
    let stands = c.self.invariant.stands in
    let rows : first_refusal (auth_rows_of v.front v.size v.support) ≡ None =
    subst (λ (l : List ℕ). first_refusal (auth_rows_of l v.size v.support) ≡ None)
    c.as_slice.ensures c.in_ok-auth.ensures.rows in
    let end : c.in_ok-auth.auth ≡ auth_end v.front v.support =
    c.in_ok-auth.ensures.end ∙ ap (λ (l : List ℕ). auth_end l v.support) c.as_slice.ensures in
    let r = room v c.self.invariant.stream stands whole rows in
    omega (
      arith,
      r.high,
      end,
      ap length c.as_slice-2.ensures,
      c.in_ok-dep.ensures.within,
      stands.small,
    )

pub read_head-requires-clause-front : goal.read_head-requires-clause-front
read_head-requires-clause-front c = λ long.
    let whole = subst (λ (v : ScanValue). v.came ≡ v.size) (sym c.self.view_is) c.requires in
    let v = scan_made c.self.inside.size c.self.inside.support c.self.inside.came
    c.self.inside.front c.self.inside.window in
    let stands = c.self.invariant.stands in
    let rows : first_refusal (auth_rows_of v.front v.size v.support) ≡ None =
    subst (λ (l : List ℕ). first_refusal (auth_rows_of l v.size v.support) ≡ None)
    c.as_slice.ensures c.in_ok-auth.ensures.rows in
    let end : c.in_ok-auth.auth ≡ auth_end v.front v.support =
    c.in_ok-auth.ensures.end ∙ ap (λ (l : List ℕ). auth_end l v.support) c.as_slice.ensures in
    let r = room v c.self.invariant.stream stands whole rows in
    let dep = c.in_ok-dep.dep in
    let section : TakesSection (has_section v.support) v.window dep =
    subst (λ (l : List ℕ). TakesSection (has_section v.support) l dep) c.as_slice-2.ensures
    c.in_ok-dep.ensures.section in
    let fields = head_room v dep r section (omega (arith, long, end)) in
    omega (
      arith,
      fields,
      ap length c.as_slice-3.ensures,
      ap length (take_rest c.as_slice-3.result.now dep),
      length-drop dep c.as_slice-3.result.now,
    )

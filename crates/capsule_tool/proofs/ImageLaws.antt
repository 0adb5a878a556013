-- How the images of a body are scanned one after the other.
use Rattle.std.proofs.Common.{◌≡◌, ℕ, ◌+◌, ◌-◌, ◌<◌, ◌≤◌, min, List, [], ◌++◌, length, take, drop}
use Rattle.std.proofs.Common.{length-append, length-take, length-drop, append_assoc, append-nil}
use Rattle.std.proofs.Common.{refl, sym, ap, ◌∙◌, arith, inl, inr}
use Rattle.std.specs.Prelude.{Option, None, Some, Ok, Err}
use Rattle.std.proofs.lemmas.Bool.{cases_lt}
use Rattle.std.proofs.lemmas.List.{take-take, take_all, drop_at}
use Rattle.std.proofs.KnownBytes.{Consumes-nil}
use Rattle.cu_base.specs.Fields.{field}
use Rattle.cu_base.specs.Refusals.{first_refusal}
use Rattle.cu_io.specs.Streams.{Progress, Goes}
use Rattle.cu_io.proofs.Taking.{goes_after}
use Rattle.capsule_grammar.specs.Fronts.{Begins}
use Rattle.capsule_grammar.specs.Refusals.{start_of}
use Rattle.capsule_grammar.specs.Refusals.{image_rows, all_image_rows, driver_count, image_count}
use Rattle.capsule_grammar.specs.Refusals.{item_count, list_end, item, bound}
use Rattle.capsule_grammar.specs.declared.refusal.Why.{Why}
use Rattle.capsule_grammar.proofs.FrontLemmas.{begins_less, field_same, bound_same}
use Rattle.capsule_grammar.proofs.FrontLemmas.{driver_count_same, image_count_same}
use Rattle.cu_base.proofs.Rows.{some_in, none_in}
use Rattle.capsule_tool.specs.Scans.{Scans, ScansImage}
use Rattle.capsule_tool.specs.declared.scan.stop.ScanStop.{ScanStop}
use Rattle.capsule_tool.specs.declared.scan.stop.ScanStop.TheVariants.{Refused, Ended, Failed}
use Rattle.capsule_tool.specs.declared.scan.stop.ScanStop.TheVariants.{Memory}
use Rattle.capsule_tool.proofs.ScanLaws.{rose_then}

-- bytes came up to here, and in every body that begins so no row of the images before the k-th
-- holds
pub record HasScanned (front : List ℕ) (size at first k here : ℕ) (old new : Progress) : Type 0
  where
    pub bytes : List ℕ
    pub goes : Goes bytes old new
    pub place : length (front ++ bytes) ≡ here
    pub rows : (body : List ℕ) → Begins (front ++ bytes) size body → (j : ℕ) → first ≤ j → j < k
        → first_refusal (image_rows (item body j) (at + bound body j)) ≡ None

pub scan_start : (front : List ℕ) (size at first : ℕ) (a : Progress)
    → HasScanned front size at first first (length front) a a
scan_start front size at first a = record {
  bytes = [];
  goes = record {
    consumed = Consumes-nil a.left;
    counted = omega arith;
    place =
        omega arith;
    later = omega arith;
  };
  place = ap length (append-nil front);
  rows = λ body begins j low high. absurd (omega (arith, low, high));
}

-- what stands behind bytes, at their end
field_behind : (xs ys : List ℕ) (at n : ℕ) → length xs ≡ at → length ys ≡ n
    → field (xs ++ ys) at n ≡ ys
field_behind xs ys at n long most =
    let behind : drop at (xs ++ ys) ≡ ys = drop_at xs ys at long in
    ap (take n) behind ∙ take_all n ys (omega (arith, most))

-- the head of an item of every body that begins so
head_begins : (front bytes passed head body : List ℕ) (size k f t : ℕ)
    → Begins (front ++ (bytes ++ (passed ++ head))) size body → list_end front ≤ length front
    → f ≡ start_of front size k → t ≡ start_of front size (k + 1) → t ≤ size
    → length (front ++ bytes) + length passed ≡ f → length head ≡ min 48 (t - f)
    → Begins head (t - f) (item body k)
head_begins front bytes passed head body size k f t begins list from to within place few =
    let all = front ++ (bytes ++ (passed ++ head)) in
    let fore = (front ++ bytes) ++ passed in
    let first : Begins front size body = begins_less front (bytes ++ (passed ++ head)) begins in
    let same : all ≡ fore ++ head = sym (append_assoc front bytes (passed ++ head))
    ∙ sym (append_assoc (front ++ bytes) passed head) in
    let f_is : bound body k ≡ f = bound_same k first list ∙ sym from in
    let t_is : bound body (k + 1) ≡ t = bound_same (k + 1) first list ∙ sym to in
    let fore_long : length fore ≡ f = length-append (front ++ bytes) passed ∙ place in
    let all_long : length all ≡ f + length head = ap length same
    ∙ (length-append fore head ∙ ap (λ n. n + length head) fore_long) in
    let cut : field body f (length head) ≡ field all f (length head) =
    field_same f (length head) begins (omega (arith, all_long)) in
    let there : field all f (length head) ≡ head = ap (λ l. field l f (length head)) same
    ∙ field_behind fore head f (length head) fore_long refl in
    let inner : take (length head) (field body f (t - f)) ≡ field body f (length head) =
    take-take (length head) (t - f) (drop f body) (omega (arith, few)) in
    let long : length (field body f (t - f)) ≡ t - f =
    omega (arith, length-take (t - f) (drop f body), length-drop f body, begins.long, within) in
    rw (f_is, t_is) (record { same = inner ∙ (cut ∙ there); long = long })

item_told : (front bytes passed head body : List ℕ) (size at k f t : ℕ) (refused : Option (ℕ × Why))
    → Begins (front ++ (bytes ++ (passed ++ head))) size body → list_end front ≤ length front
    → f ≡ start_of front size k → t ≡ start_of front size (k + 1) → t ≤ size
    → length (front ++ bytes) + length passed ≡ f → length head ≡ min 48 (t - f)
    → ((image : List ℕ) → Begins head (t - f) image
    → first_refusal (image_rows image (at + f)) ≡ refused)
    → first_refusal (image_rows (item body k) (at + bound body k)) ≡ refused
item_told front bytes passed head body size at k f t refused begins list from to within place few
    tells =
    let first : Begins front size body = begins_less front (bytes ++ (passed ++ head)) begins in
    let f_is : bound body k ≡ f = bound_same k first list ∙ sym from in
    ap (λ n. first_refusal (image_rows (item body k) (at + n))) f_is
    ∙ tells (item body k) (head_begins front bytes passed head body size k f t begins list from to
    within place few)

-- the bytes before stay at the front
begins_before : (front bytes more body : List ℕ) (size : ℕ)
    → Begins (front ++ (bytes ++ more)) size body → Begins (front ++ bytes) size body
begins_before front bytes more body size begins =
    begins_less (front ++ bytes) more (rw (append_assoc front bytes more) begins)

pub scan_on : (front : List ℕ) (size at first k here f t n : ℕ) (a b c : Progress)
    → HasScanned front size at first k here a b → list_end front ≤ length front
    → f ≡ start_of front size k → t ≡ start_of front size (k + 1) → t ≤ size → here ≤ f
    → ScansImage (f - here) (t - f) (at + f) b c (Ok n)
    → HasScanned front size at first (k + 1) (f + n) a c
scan_on front size at first k here f t n a b c was list from to within near
    (is, (passed, head, gap, few, then, tells)) =
    let place : length (front ++ was.bytes) + length passed ≡ f =
    omega (arith, was.place, gap, near) in
    record {
      bytes = was.bytes ++ (passed ++ head);
      goes = goes_after was.bytes (passed ++ head) a b c was.goes then;
      place = omega (
        arith,
        length-append front (was.bytes ++ (passed ++ head)),
        length-append
            was.bytes (passed ++ head),
        length-append passed head,
        length-append front was.bytes,
        place,
        few,
        is,
      );
      rows = λ body begins j low high. elim (cases_lt j k) [
        | inl before ↦ was.rows body (begins_before front was.bytes (passed ++ head) body size
            begins) j low before
        | inr last ↦
            let same : j ≡ k = omega arith in
            rw same (item_told front was.bytes passed head body size at k f t None begins list from
            to within place few tells)
      ];
    }

pub scan_stopped : (X : Type 0) (front : List ℕ) (size at k here f t : ℕ) (a b c : Progress)
    (stop : ScanStop) → HasScanned front size at (driver_count front) k here a b
    → list_end front ≡ length front → driver_count front ≤ k → k < item_count front
    → f ≡ start_of front size k → t ≡ start_of front size (k + 1) → t ≤ size → here ≤ f → f ≤ t
    → ScansImage (f - here) (t - f) (at + f) b c (Err stop)
    → Scans {X = X} size (λ body. all_image_rows body at) front a c (Err stop)
scan_stopped X front size at k here f t a b c (Refused refusal) was list low high from to within
    near rises (passed, head, gap, few, then, tells) =
    let place : length (front ++ was.bytes) + length passed ≡ f =
    omega (arith, was.place, gap, near) in (
      was.bytes ++ (passed ++ head),
      goes_after was.bytes (passed ++ head) a b c was.goes then,
      omega (
        arith,
        length-append front (was.bytes ++ (passed ++ head)),
        length-append was.bytes
            (passed ++ head),
        length-append passed head,
        length-append front was.bytes,
        place,
        few,
        within,
        rises,
      ),
      λ body begins.
          let start : Begins front size body =
          begins_less front (was.bytes ++ (passed ++ head)) begins in
          let d : driver_count body ≡ driver_count front =
          driver_count_same start (omega (arith, list)) in
          let i : image_count body ≡ image_count front =
          image_count_same start (omega (arith, list)) in
          some_in (λ j. image_rows (item body j) (at + bound body j)) (driver_count body)
          (image_count body) k (refusal.at, refusal.why)
          (λ j from' below. was.rows body (begins_before front was.bytes (passed ++ head) body size
          begins) j (omega (arith, d, from')) below)
          (omega (arith, d, low)) (omega (arith, d, i, high))
          (item_told front was.bytes passed head body size at k f t (Some (refusal.at, refusal.why))
          begins (omega (arith, list)) from to within place few tells),
    )
scan_stopped X front size at k here f t a b c Ended was list low high from to within near rises
    (bytes, then, short, end) = (
      was.bytes ++ bytes,
      goes_after was.bytes bytes a b c was.goes then,
      omega (
        arith,
        length-append front (was.bytes ++ bytes),
        length-append was.bytes bytes,
        length-append front was.bytes,
        was.place,
        short,
        near,
        rises,
        within,
      ),
      end,
    )
scan_stopped X front size at k here f t a b c Failed was list low high from to within near rises
    is = rose_then _ _ _ was.goes.later is
scan_stopped X front size at k here f t a b c Memory was list low high from to within near rises
    is = tt

pub scan_done : {X : Type 0} (x : X) (front : List ℕ) (size at k here : ℕ) (a b : Progress)
    → HasScanned front size at (driver_count front) k here a b
    → list_end front ≡ length front → item_count front ≤ k → here ≤ size
    → Scans size (λ body. all_image_rows body at) front a b (Ok x)
scan_done x front size at k here a b was list end within = (
  was.bytes,
  was.goes,
  omega (arith, was.place, within),
  λ body begins.
      let start : Begins front size body = begins_less front was.bytes begins in
      let d : driver_count body ≡ driver_count front =
      driver_count_same start (omega (arith, list)) in
      let i : image_count body ≡ image_count front = image_count_same start (omega (arith, list)) in
      none_in (λ j. image_rows (item body j) (at + bound body j)) (driver_count body)
      (image_count body)
      (λ j low high. was.rows body begins j (omega (arith, d, low))
      (omega (arith, d, i, high, end))),
)

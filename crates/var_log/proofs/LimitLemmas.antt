-- What is read keeps its limits.
use Rattle.std.proofs.Common.{◌≡◌, ℕ, zero, suc, ◌+◌, ◌≤◌, List, [], ◌∷◌, length, drop, get_or}
use Rattle.std.proofs.Common.{refl}
use Rattle.std.proofs.Common.{sym, ap, ◌∙◌, arith, subst, true, false, Bool, Option, Some, None}
use Rattle.std.proofs.Common.{option_map, cond}
use Rattle.std.proofs.Common.{All, IsTrue, nat_eq, nat_le, nat_lt, ◌&&◌, unwrap_or}
use Rattle.std.proofs.lemmas.Bool.{le-leb, leb-true, ltb-false}
use Rattle.std.proofs.lemmas.List.{length-take}
use Rattle.std.proofs.lemmas.List.Elements.{All-append}
use Rattle.cu_base.specs.Fields.{field, number_at}
use Rattle.var_log.specs.declared.change.Change.{Change}
use Rattle.var_log.specs.declared.limits.TheConstants.{MAX_DATA}
use Rattle.var_log.specs.Changes.{is_name, keeps_limits}
use Rattle.var_log.specs.Records.{first_change, changes_from, changes_in, entries_in, entry_of}
use Rattle.var_log.specs.Records.{Entry}
use Rattle.var_log.specs.Scans.{is_record}
use Rattle.var_log.proofs.Spelled.{and_first, and_second, and_true, eqb-true, ltb-true}
use Rattle.var_log.proofs.Splits.{no_entries, some_entry, nothing}
use Rattle.var_log.proofs.ReadLemmas.{set_case, delete_case, no_kind, one_change, nothing_more}
use Rattle.var_log.proofs.ReadLemmas.{body_begins, body_ends, body_goes_on, short_body}
use Rattle.var_log.proofs.ScanLemmas.{changes_of}

abbrev KeepLimits : List Change → Type 0
KeepLimits = All (λ c. IsTrue (keeps_limits c))

some_is : {A : Type 0} (a b : A) → Some a ≡ Some b → a ≡ b
some_is a b e = cc

taken_if : {A : Type 0} (b : Bool) (x p : A) → cond b (Some x) None ≡ Some p → (b ≡ true) × (x ≡ p)
taken_if true x p e = (refl, some_is x p e)
taken_if false x p e = absurd cc

set_limits : (bytes : List ℕ) (p : Change × List ℕ) → get_or bytes 0 0 ≡ 1 → first_change bytes ≡ Some p
    → keeps_limits p.0 ≡ true
set_limits bytes p kind is =
    let n = get_or bytes 1 0 in
    let size = number_at bytes (22 + n) 4 in
    let a = nat_le (26 + n) (length bytes) in
    let b = is_name (field bytes 2 n) in
    let s = nat_le size MAX_DATA in
    let d = nat_le (26 + n + size) (length bytes) in
    let t = taken_if (a && b && s && d) _ p
    (sym (set_case bytes n a b s d kind refl refl refl refl refl) ∙ is) in
    let abs = and_first (a && b && s) d t.0 in
    let small : s ≡ true = and_second (a && b) s abs in
    let named : b ≡ true = and_second a b (and_first (a && b) s abs) in
    let long : length (field bytes (26 + n) size) ≤ size =
    omega (arith, length-take size (drop (26 + n) bytes)) in
    ap (λ (q : Change × List ℕ). keeps_limits q.0) (sym t.1)
    ∙ and_true _ _ named (le-leb _ _ (omega (arith, long, leb-true _ _ small)))

delete_limits : (bytes : List ℕ) (p : Change × List ℕ) → get_or bytes 0 0 ≡ 2 → first_change bytes ≡ Some p
    → keeps_limits p.0 ≡ true
delete_limits bytes p kind is =
    let n = get_or bytes 1 0 in
    let a = nat_le (18 + n) (length bytes) in
    let b = is_name (field bytes 2 n) in
    let t = taken_if (a && b) _ p (sym (delete_case bytes n a b kind refl refl refl) ∙ is) in
    ap (λ (q : Change × List ℕ). keeps_limits q.0) (sym t.1) ∙ and_second a b t.0

by_kind : (bytes : List ℕ) (p : Change × List ℕ) (one two : Bool) → nat_eq (get_or bytes 0 0) 1 ≡ one
    → nat_eq (get_or bytes 0 0) 2 ≡ two → first_change bytes ≡ Some p → keeps_limits p.0 ≡ true
by_kind bytes p true two first second is = set_limits bytes p (eqb-true _ _ first) is
by_kind bytes p false true first second is = delete_limits bytes p (eqb-true _ _ second) is
by_kind bytes p false false first second is =
    let none : None ≡ Some p = sym (no_kind bytes first second) ∙ is in absurd cc

first_limits : (bytes : List ℕ) (p : Change × List ℕ) → first_change bytes ≡ Some p → keeps_limits p.0 ≡ true
first_limits bytes p is = by_kind bytes p _ _ refl refl is

one_more_limit : (c : Change) (cs : List Change) → keeps_limits c ≡ true → KeepLimits cs → KeepLimits (c ∷ cs)
one_more_limit c cs keeps rest zero d within = keeps
one_more_limit c cs keeps rest (suc k) d within = rest k d (omega arith)

from_rest : (c : Change) (o : Option (List Change)) (cs : List Change)
    → ((ds : List Change) → o ≡ Some ds → KeepLimits ds) → keeps_limits c ≡ true
    → option_map (λ (ds : List Change). c ∷ ds) o ≡ Some cs → KeepLimits cs
from_rest c None cs later keeps e = absurd cc
from_rest c (Some ds) cs later keeps e =
    subst KeepLimits (some_is (c ∷ ds) cs e) (one_more_limit c ds keeps (later ds refl))

from_first : (n : ℕ) (bytes : List ℕ) (o : Option (Change × List ℕ)) (cs : List Change)
    → ((rest : List ℕ) (ds : List Change) → changes_from n rest ≡ Some ds → KeepLimits ds)
    → first_change bytes ≡ o → changes_from (suc n) bytes ≡ Some cs → KeepLimits cs
from_first n bytes None cs later first is =
    let none : None ≡ Some cs = sym (nothing_more n bytes first) ∙ is in absurd cc
from_first n bytes (Some p) cs later first is =
    from_rest p.0 (changes_from n p.1) cs (later p.1) (first_limits bytes p first)
    (sym (one_change n bytes p.1 p.0 first) ∙ is)

from_limits : (n : ℕ) (bytes : List ℕ) (cs : List Change) → changes_from n bytes ≡ Some cs → KeepLimits cs
from_limits zero [] cs is =
    subst KeepLimits (some_is [] cs (sym (body_ends [] refl) ∙ is)) (λ k d within. absurd (omega arith))
from_limits zero (b ∷ bytes) cs is =
    let none : None ≡ Some cs = sym (body_goes_on (b ∷ bytes) (omega arith)) ∙ is in absurd cc
from_limits (suc n) bytes cs is =
    from_first n bytes (first_change bytes) cs (from_limits n) refl is

body_limits : (body : List ℕ) (b : Bool) (cs : List Change) → nat_lt (length body) 2 ≡ b
    → changes_in body ≡ Some cs → KeepLimits cs
body_limits body true cs short is =
    let none : None ≡ Some cs = sym (short_body body (ltb-true _ _ short)) ∙ is in absurd cc
body_limits body false cs long is =
    from_limits (number_at body 0 2) (drop 2 body) cs (sym (body_begins body (ltb-false _ _ long)) ∙ is)

found_limits : (o : Option (List Change)) (body : List ℕ) → changes_in body ≡ o → KeepLimits (unwrap_or o [])
found_limits None body is = λ k d within. absurd (omega arith)
found_limits (Some cs) body is = body_limits body _ cs refl is

entry_limits : (format : ℕ) (bytes : List ℕ) → KeepLimits (entry_of format bytes).changes
entry_limits format bytes =
    found_limits (changes_in (field bytes 16 (number_at bytes 4 4))) (field bytes 16 (number_at bytes 4 4)) refl

entries_case : (most format : ℕ) (before : Option ℕ) (bytes : List ℕ) (b : Bool)
    → is_record format before bytes ≡ b
    → KeepLimits (changes_of (entries_in most format (Some (entry_of format bytes).number)
    (drop (entry_of format bytes).size bytes)))
    → KeepLimits (changes_of (entries_in (suc most) format before bytes))
entries_case most format before bytes false ends later =
    subst (λ (es : List Entry). KeepLimits (changes_of es)) (sym (no_entries most format before bytes ends))
    (λ k d within. absurd (omega arith))
entries_case most format before bytes true stands later =
    let e = entry_of format bytes in
    let rest = entries_in most format (Some e.number) (drop e.size bytes) in
    subst (λ (es : List Entry). KeepLimits (changes_of es)) (sym (some_entry most format before bytes stands))
    (All-append (λ c. IsTrue (keeps_limits c)) e.changes (changes_of rest) (entry_limits format bytes) later)

pub entries_limits : (most format : ℕ) (before : Option ℕ) (bytes : List ℕ)
    → KeepLimits (changes_of (entries_in most format before bytes))
entries_limits zero format before bytes =
    subst (λ (es : List Entry). KeepLimits (changes_of es)) (sym (nothing format before bytes))
    (λ k d within. absurd (omega arith))
entries_limits (suc most) format before bytes =
    let e = entry_of format bytes in
    entries_case most format before bytes (is_record format before bytes) refl
    (entries_limits most format (Some e.number) (drop e.size bytes))

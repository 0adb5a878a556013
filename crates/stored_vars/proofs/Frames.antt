-- What changes of variables of the platform make of what is read: a variable that none of them
-- names reads as before, one that the last of them sets reads as what was set.
use Rattle.std.proofs.Common.{◌≡◌, ℕ, zero, suc, ◌==◌, Bool, true, false, ◌&&◌, cond, List, []}
use Rattle.std.proofs.Common.{◌∷◌, ◌++◌, map, Option, Some, None, option_map, is_some, refl, sym}
use Rattle.std.proofs.Common.{ap, ◌∙◌}
use Rattle.std.proofs.Common.{subst}
use Rattle.std.specs.List.{AllByRecursion}
use Rattle.std.specs.Str.{bytes_eq}
use Rattle.std.proofs.lemmas.Bool.{and_from, and_parts, and_right, eq-eqb, eqb-true}
use Rattle.std.proofs.lemmas.Bool.{false_from_ne_true}
use Rattle.std.proofs.lemmas.Slice.Eq.{bytes_eq-Decides}
use Rattle.stored_vars.specs.Edits.{delete_of, set_of}
use Rattle.stored_vars.specs.Holds.{bytes_in}
use Rattle.stored_vars.specs.Stands.{IsPlatforms}
use Rattle.stored_vars.specs.Variables.{guid_of, is_variable, name_of}
use Rattle.stored_vars.specs.declared.variable.StoredVar.{StoredVar}
use Rattle.stored_vars.specs.declared.variable.StoredVar.TheVariants.{Device, Progress, Serial}
use Rattle.stored_vars.specs.declared.variable.StoredVar.TheVariants.{Stage, OsIndications}
use Rattle.stored_vars.specs.declared.variable.StoredVar.TheVariants.{CapsuleMax, CapsuleLast}
use Rattle.stored_vars.specs.declared.variable.StoredVar.TheVariants.{Outcome}
use Rattle.stored_vars.proofs.VariableLaws.{names_apart}
use Rattle.var_log.specs.Changes.{Variables, Variable, after, changed, is_of, left_by}
use Rattle.var_log.specs.declared.change.Change.{Change}

-- a change of a variable of the platform
pub data Edit : Type 0 where
  Sets : (v : StoredVar) → (bytes : List ℕ) → Edit
  Deletes : (v : StoredVar) → Edit

abbrev pub edited : Edit → StoredVar
edited (Sets v bytes) = v
edited (Deletes v) = v

-- the bytes that it leaves
abbrev pub left_in : Edit → Option (List ℕ)
left_in (Sets v bytes) = Some bytes
left_in (Deletes v) = None

abbrev pub change_of : Edit → Change
change_of (Sets v bytes) = set_of v bytes
change_of (Deletes v) = delete_of v

-- ---- two variables are one

abbrev pub kind_of : StoredVar → ℕ
kind_of (Device d) = 0
kind_of Progress = 1
kind_of Serial = 2
kind_of (Stage k) = 3
kind_of OsIndications = 4
kind_of CapsuleMax = 5
kind_of CapsuleLast = 6
kind_of (Outcome n) = 7

abbrev pub number_of : StoredVar → ℕ
number_of (Device d) = d
number_of Progress = 0
number_of Serial = 0
number_of (Stage k) = k
number_of OsIndications = 0
number_of CapsuleMax = 0
number_of CapsuleLast = 0
number_of (Outcome n) = n

abbrev pub is_same : StoredVar → StoredVar → Bool
is_same v w = kind_of v == kind_of w && number_of v == number_of w

-- the variable of a kind and a number
abbrev var_at : ℕ → ℕ → StoredVar
var_at zero n = Device n
var_at (suc zero) n = Progress
var_at (suc (suc zero)) n = Serial
var_at (suc (suc (suc zero))) n = Stage n
var_at (suc (suc (suc (suc zero)))) n = OsIndications
var_at (suc (suc (suc (suc (suc zero))))) n = CapsuleMax
var_at (suc (suc (suc (suc (suc (suc zero)))))) n = CapsuleLast
var_at (suc (suc (suc (suc (suc (suc (suc k))))))) n = Outcome n

var_again : (v : StoredVar) → var_at (kind_of v) (number_of v) ≡ v
var_again (Device d) = refl
var_again Progress = refl
var_again Serial = refl
var_again (Stage k) = refl
var_again OsIndications = refl
var_again CapsuleMax = refl
var_again CapsuleLast = refl
var_again (Outcome n) = refl

one_var : (k k' n n' : ℕ) → k ≡ k' → n ≡ n' → var_at k n ≡ var_at k' n'
one_var k k' n n' e f = ap (λ z. var_at z n) e ∙ ap (var_at k') f

pub is_one : (v w : StoredVar) → is_same v w ≡ true → v ≡ w
is_one v w e =
    let parts = and_parts (kind_of v == kind_of w) (number_of v == number_of w) e in
    sym (var_again v)
    ∙ one_var (kind_of v) (kind_of w) (number_of v) (number_of w)
    (eqb-true (kind_of v) (kind_of w) parts.0) (eqb-true (number_of v) (number_of w) parts.1)
    ∙ var_again w

pub is_itself : (v : StoredVar) → is_same v v ≡ true
is_itself v =
    and_from (kind_of v == kind_of v) (number_of v == number_of v)
    (eq-eqb (kind_of v) (kind_of v) refl) (eq-eqb (number_of v) (number_of v) refl)

-- ---- what is read after changes

-- the bytes of a variable once changes were made, by those before
abbrev pub told : List Edit → StoredVar → Option (List ℕ) → Option (List ℕ)
told [] w b = b
told (e ∷ es) w b = told es w (cond (is_same (edited e) w) (left_in e) b)

abbrev pub AreVariables : List Edit → Type 0
AreVariables = AllByRecursion (λ e. is_variable (edited e) ≡ true)

-- the bytes of what is at a place, where something is
abbrev held : Option Variable → Option (List ℕ)
held = option_map (λ (x : Variable). x.bytes)

same_bytes : (a : List ℕ) → bytes_eq a a ≡ true
same_bytes a = (bytes_eq-Decides a a).1 refl

-- a change is of its own variable
is_of_its : (e : Edit)
    → is_of (guid_of (edited e)).bytes (name_of (edited e)) (change_of e) ≡ true
is_of_its (Sets v bytes) =
    and_from _ _ (same_bytes (guid_of v).bytes) (same_bytes (name_of v))
is_of_its (Deletes v) = and_from _ _ (same_bytes (guid_of v).bytes) (same_bytes (name_of v))

-- and of none of another name
is_of_no : (e : Edit) (guid name : List ℕ) → bytes_eq (name_of (edited e)) name ≡ false
    → is_of guid name (change_of e) ≡ false
is_of_no (Sets v bytes) guid name h = and_right _ _ h
is_of_no (Deletes v) guid name h = and_right _ _ h

left_held : (e : Edit) → held (left_by (change_of e)) ≡ left_in e
left_held (Sets v bytes) = refl
left_held (Deletes v) = refl

other_name : (v w : StoredVar) → is_variable v ≡ true → is_variable w ≡ true
    → is_same v w ≡ false → bytes_eq (name_of v) (name_of w) ≡ false
other_name v w is_v is_w apart =
    false_from_ne_true (bytes_eq (name_of v) (name_of w)) (λ same.
    let one : v ≡ w =
    names_apart v w is_v is_w ((bytes_eq-Decides (name_of v) (name_of w)).0 same) in
    let yes_same : is_same v w ≡ true = subst (λ x. is_same v x ≡ true) one (is_itself v) in
    absurd cc)

-- one change
pub read_changed : (variables : Variables) (e : Edit) (w : StoredVar)
    → is_variable (edited e) ≡ true → is_variable w ≡ true
    → bytes_in (changed variables (change_of e)) w
    ≡ cond (is_same (edited e) w) (left_in e) (bytes_in variables w)
read_changed variables e w is_e is_w = by_test (is_same (edited e) w) refl
  where
    by_test : (b : Bool) → is_same (edited e) w ≡ b
        → held (cond (is_of (guid_of w).bytes (name_of w) (change_of e)) (left_by (change_of e))
        (variables (guid_of w).bytes (name_of w)))
        ≡ cond b (left_in e) (bytes_in variables w)
    by_test true same =
        ap (λ t. held (cond t (left_by (change_of e))
        (variables (guid_of w).bytes (name_of w))))
        (subst (λ x. is_of (guid_of x).bytes (name_of x) (change_of e) ≡ true)
        (is_one (edited e) w same) (is_of_its e))
        ∙ left_held e
    by_test false apart =
        ap (λ t. held (cond t (left_by (change_of e))
        (variables (guid_of w).bytes (name_of w))))
        (is_of_no e (guid_of w).bytes (name_of w) (other_name (edited e) w is_e is_w apart))

-- several changes
pub read_after : (variables : Variables) (es : List Edit) (w : StoredVar) → AreVariables es
    → is_variable w ≡ true
    → bytes_in (after variables (map change_of es)) w ≡ told es w (bytes_in variables w)
read_after variables [] w all is = refl
read_after variables (e ∷ es) w all is =
    read_after (changed variables (change_of e)) es w all.1 is
    ∙ ap (told es w) (read_changed variables e w all.0 is)

-- changes one behind others
pub told_joined : (es rest : List Edit) (w : StoredVar) (b : Option (List ℕ))
    → told (es ++ rest) w b ≡ told rest w (told es w b)
told_joined [] rest w b = refl
told_joined (e ∷ es) rest w b =
    told_joined es rest w (cond (is_same (edited e) w) (left_in e) b)

pub variables_joined : (es rest : List Edit) → AreVariables es → AreVariables rest
    → AreVariables (es ++ rest)
variables_joined [] rest a b = b
variables_joined (e ∷ es) rest a b = (a.0, variables_joined es rest a.1 b)

-- ---- no other variables are there

abbrev pub AllPlatforms : Variables → Type 0
AllPlatforms variables =
    (guid name : List ℕ) → is_some (variables guid name) ≡ true → IsPlatforms guid name

platforms : (e : Edit) (guid name : List ℕ) → is_variable (edited e) ≡ true
    → is_of guid name (change_of e) ≡ true → IsPlatforms guid name
platforms (Sets v bytes) guid name is h =
    let parts = and_parts (bytes_eq (guid_of v).bytes guid) (bytes_eq (name_of v) name) h in
    record {
      variable = v;
      within = is;
      guid_is = (bytes_eq-Decides (guid_of v).bytes guid).0 parts.0;
      name_is = (bytes_eq-Decides (name_of v) name).0 parts.1;
    }
platforms (Deletes v) guid name is h =
    let parts = and_parts (bytes_eq (guid_of v).bytes guid) (bytes_eq (name_of v) name) h in
    record {
      variable = v;
      within = is;
      guid_is = (bytes_eq-Decides (guid_of v).bytes guid).0 parts.0;
      name_is = (bytes_eq-Decides (name_of v) name).0 parts.1;
    }

platforms_changed : (variables : Variables) (e : Edit) → is_variable (edited e) ≡ true
    → AllPlatforms variables → AllPlatforms (changed variables (change_of e))
platforms_changed variables e is all guid name there =
    by_test (is_of guid name (change_of e)) refl there
  where
    by_test : (b : Bool) → is_of guid name (change_of e) ≡ b
        → is_some (cond b (left_by (change_of e)) (variables guid name)) ≡ true
        → IsPlatforms guid name
    by_test true h k = platforms e guid name is h
    by_test false h k = all guid name k

pub platforms_after : (variables : Variables) (es : List Edit) → AreVariables es
    → AllPlatforms variables → AllPlatforms (after variables (map change_of es))
platforms_after variables [] are all = all
platforms_after variables (e ∷ es) are all =
    platforms_after (changed variables (change_of e)) es are.1
    (platforms_changed variables e are.0 all)

-- ---- changes of variables of other kinds

-- changes of variables that are not of a class leave those of the class
pub told_beside : (within : StoredVar → Bool) (es : List Edit) (w : StoredVar)
    (b : Option (List ℕ)) → AllByRecursion (λ e. within (edited e) ≡ false) es
    → within w ≡ true → told es w b ≡ b
told_beside within [] w b others is = refl
told_beside within (e ∷ es) w b others is =
    let apart : is_same (edited e) w ≡ false =
    false_from_ne_true (is_same (edited e) w) (λ same.
    let one : edited e ≡ w = is_one (edited e) w same in
    let yes_within : within (edited e) ≡ true =
    subst (λ x. within x ≡ true) (sym one) is in
    let no_within : within (edited e) ≡ false = others.0 in
    absurd cc) in
    ap (λ t. told es w (cond t (left_in e) b)) apart ∙ told_beside within es w b others.1 is

-- Banks whose front is the same, and the stores that they are.
use Rattle.std.proofs.Common.{◌≡◌, ◌≢◌, ℕ, suc, ◌+◌, ◌-◌, ◌<◌, ◌≤◌, ◌^◌, List, [], ◌∷◌, ◌++◌}
use Rattle.std.proofs.Common.{length, get_or, take, drop, refl, sym, ap, ◌∙◌, arith, Option, Some}
use Rattle.std.proofs.Common.{None, Bool, true, false, All, IsTrue, nat_lt, nat_eq, option_map}
use Rattle.std.proofs.Common.{unwrap_or, append_assoc}
use Rattle.std.proofs.lemmas.List.{drop-drop, length-drop, append-nil, get_or-drop}
use Rattle.std.proofs.lemmas.Bool.Decides.{nat_tests}
use Rattle.std.proofs.lemmas.List.Sums.{fold-append}
use Rattle.std.specs.List.{flat_map}
use Rattle.cu_base.specs.Fields.{number}
use Rattle.var_log.specs.declared.change.Change.{Change}
use Rattle.var_log.specs.declared.limits.TheConstants.{OPEN_GATE, CLOSED_GATE}
use Rattle.var_log.specs.Changes.{is_change, after, no_variables, changed, Variables}
use Rattle.var_log.specs.Records.{Entry, entries_in, record_bytes, record_size, body_of, is_next}
use Rattle.var_log.specs.Banks.{last_of, taken, entries_of, end_of, format_of, generation_of}
use Rattle.var_log.specs.Banks.{is_open}
use Rattle.var_log.specs.Banks.{choice, log_bank, store_in, store_of, StoreValue, with_batch}
use Rattle.var_log.proofs.Splits.{splits, sized, closed_end, one_more, same_field, same_byte}
use Rattle.var_log.proofs.Splits.{same_drop}

-- two banks have one front
pub record SameFront (n : ℕ) (old new : List ℕ) : Type 0 where
  pub long : length new ≡ length old
  pub same : take n new ≡ take n old

-- two banks have one header
pub record SameHead (old new : List ℕ) : Type 0 where
  pub open_too : is_open new ≡ is_open old
  pub generation : generation_of new ≡ generation_of old
  pub format : format_of new ≡ format_of old

-- two banks have one header and the same records
pub record SameBank (old new : List ℕ) : Type 0 where
  pub head : SameHead old new
  pub entries : entries_of new ≡ entries_of old

-- a bank has this record more
pub record Grown (e : Entry) (old new : List ℕ) : Type 0 where
  pub head : SameHead old new
  pub entries : entries_of new ≡ entries_of old ++ e ∷ []

pub same_bank : (old new : List ℕ) → new ≡ old → SameBank old new
same_bank old new is = record {
  head = record { open_too = ap is_open is; generation = ap generation_of is; format = ap format_of is };
  entries = ap entries_of is;
}

pub same_head : (n : ℕ) (old new : List ℕ) → SameFront n old new → 16 ≤ n → SameHead old new
same_head n old new front le =
    let gate = same_byte n 0 old new front.same (omega arith) in
    let named = same_field n 1 3 old new front.same (omega arith) in
    let format = same_field n 4 4 old new front.same (omega arith) in
    record {
      open_too = rw (gate, named, format) refl;
      generation = ap number (same_field n 8 8 old new front.same (omega arith));
      format = ap number format;
    }

-- what the records of a bank with the same front are
record Follows (old new : List ℕ) : Type 0 where
  more : ℕ
  entries : entries_of new
      ≡ entries_of old
      ++ entries_in (suc more) (format_of old) (last_of None (entries_of old)) (drop (end_of old) new)

follows : (old new : List ℕ) → SameFront (end_of old) old new → end_of old < length old → Follows old new
follows old new front within =
    let es = entries_of old in
    let q = taken es in
    let format : format_of new ≡ format_of old = (same_head (16 + q) old new front (omega arith)).format in
    let s = splits (length old) (format_of old) None (drop 16 old) (drop 16 new) in
    let few = (sized (length old) (format_of old) None (drop 16 old)).sum in
    let more : ℕ = length old - length es - 1 in
    let counts : length es + suc more ≡ length new = omega (arith, few, front.long, within) in
    let back : take q (drop 16 new) ≡ take q (drop 16 old) =
    same_drop (16 + q) 16 q old new front.same refl in
    let inside : q < length (drop 16 new) = omega (arith, length-drop 16 new, front.long, within) in
    record {
      more = more;
      entries = ap (λ (f : ℕ). entries_in (length new) f None (drop 16 new)) format
          ∙ ap (λ (k : ℕ). entries_in k (format_of old) None (drop 16 new)) (sym counts)
          ∙ s.into (suc more) back inside
          ∙ ap (λ (l : List ℕ). es ++ entries_in (suc more) (format_of old) (last_of None es) l)
          (drop-drop q 16 new);
    }

pub eqb-no : (a b : ℕ) → a ≢ b → nat_eq a b ≡ false
eqb-no a b h = grind (arith, nat_tests)

-- a closed gate at the end
pub kept : (old new : List ℕ) → SameFront (end_of old) old new → end_of old < length old
    → get_or new (end_of old) 0 ≢ OPEN_GATE → SameBank old new
kept old new front within shut =
    let f = follows old new front within in
    let es = entries_of old in
    let here : end_of old ≡ end_of old + 0 = omega arith in
    let gate : get_or (drop (end_of old) new) 0 0 ≡ get_or new (end_of old) 0 =
    get_or-drop (end_of old) new 0 0 ∙ ap (λ (k : ℕ). get_or new k 0) (sym here) in
    let test : nat_eq (get_or (drop (end_of old) new) 0 0) OPEN_GATE ≡ false =
    ap (λ (k : ℕ). nat_eq k OPEN_GATE) gate ∙ eqb-no _ _ shut in
    record {
      head = same_head (end_of old) old new front (omega arith);
      entries = f.entries
          ∙ ap (λ (l : List Entry). es ++ l)
          (closed_end (suc f.more) (format_of old) (last_of None es) (drop (end_of old) new) test)
          ∙ append-nil es;
    }

-- the entry of a record under format 2
abbrev pub entry_with : ℕ → List Change → Entry
entry_with number cs = record {
  size = record_size 2 (length (body_of cs));
  number = number;
  changes = cs;
}

-- an open record at the end, and a closed gate behind it
pub grown : (old new : List ℕ) (number : ℕ) (cs : List Change) (rest : List ℕ)
    → SameFront (end_of old) old new → end_of old < length old → format_of old ≡ 2
    → drop (end_of old) new ≡ record_bytes 2 number cs ++ CLOSED_GATE ∷ rest
    → length (body_of cs) < 2 ^ 32 → number < 2 ^ 64 → length cs < 2 ^ 16
    → All (λ c. IsTrue (is_change c)) cs
    → is_next (last_of None (entries_of old)) number ≡ true → Grown (entry_with number cs) old new
grown old new number cs rest front within format here small low few each next =
    let f = follows old new front within in
    let es = entries_of old in
    record {
      head = same_head (end_of old) old new front (omega arith);
      entries = f.entries
          ∙ ap (λ (k : ℕ). es ++ entries_in (suc f.more) k (last_of None es) (drop (end_of old) new)) format
          ∙ ap (λ (l : List ℕ). es ++ entries_in (suc f.more) 2 (last_of None es) l) here
          ∙ ap (λ (l : List Entry). es ++ l)
          (one_more f.more 2 (last_of None es) number cs rest small low few each next);
    }

-- ---- stores

unfoldable pub made_of : List Entry → ℕ → StoreValue
made_of es generation = record {
  variables = after no_variables (flat_map (λ (e : Entry). e.changes) es);
  seq = unwrap_or (last_of None es) 0;
  generation = generation;
}

pub store_is : (bank : List ℕ) → store_in bank ≡ made_of (entries_of bank) (generation_of bank)
unfolding made_of
store_is bank = refl

pub same_store_in : (old new : List ℕ) → SameBank old new → store_in new ≡ store_in old
same_store_in old new is =
    store_is new ∙ ap (λ (es : List Entry). made_of es (generation_of new)) is.entries
    ∙ ap (made_of (entries_of old)) is.head.generation ∙ sym (store_is old)

-- which bank is taken depends on the headers alone
pub same_choice : (old new : ℕ → List ℕ) → SameHead (old 0) (new 0) → SameHead (old 1) (new 1)
    → log_bank new ≡ log_bank old
same_choice old new first second =
    rw (first.open_too, second.open_too, first.generation, second.generation) refl

chosen : {X : Type 0} (a b c : Bool) (f g : ℕ → X) → f 0 ≡ g 0 → f 1 ≡ g 1
    → option_map f (choice a b c) ≡ option_map g (choice a b c)
chosen true true true f g p q = ap Some q
chosen true true false f g p q = ap Some p
chosen true false c f g p q = ap Some p
chosen false true c f g p q = ap Some q
chosen false false c f g p q = refl

pub same_store : (old new : ℕ → List ℕ) → SameBank (old 0) (new 0) → SameBank (old 1) (new 1)
    → store_of new ≡ store_of old
unfolding store_of
same_store old new first second =
    ap (option_map (λ k. store_in (new k))) (same_choice old new first.head second.head)
    ∙ chosen (is_open (old 0)) (is_open (old 1))
    (nat_lt (generation_of (old 0)) (generation_of (old 1))) (λ k. store_in (new k)) (λ k. store_in (old k))
    (same_store_in (old 0) (new 0) first) (same_store_in (old 1) (new 1) second)

pub store_at : (banks : ℕ → List ℕ) (k : ℕ) → log_bank banks ≡ Some k
    → store_of banks ≡ Some (store_in (banks k))
unfolding store_of
store_at banks k is = rw is refl

pub last_grown : (es : List Entry) (e : Entry) → last_of None (es ++ e ∷ []) ≡ Some e.number
last_grown es e = fold-append (λ (b : Option ℕ) (x : Entry). Some x.number) None es (e ∷ [])

flat_grown : (es : List Entry) (e : Entry)
    → flat_map (λ (x : Entry). x.changes) (es ++ e ∷ [])
    ≡ flat_map (λ (x : Entry). x.changes) es ++ e.changes
flat_grown [] e = append-nil e.changes
flat_grown (x ∷ es) e =
    ap (λ (l : List Change). x.changes ++ l) (flat_grown es e)
    ∙ sym (append_assoc x.changes (flat_map (λ (x : Entry). x.changes) es) e.changes)

pub taken_grown : (es : List Entry) (e : Entry) → taken (es ++ e ∷ []) ≡ taken es + e.size
taken_grown [] e = omega arith
taken_grown (x ∷ es) e = omega (arith, taken_grown es e)

pub grown_store_in : (e : Entry) (old new : List ℕ) → Grown e old new
    → e.number ≡ unwrap_or (last_of None (entries_of old)) 0 + 1
    → store_in new ≡ with_batch (store_in old) e.changes
grown_store_in e old new is next =
    let es = entries_of old in
    let all : flat_map (λ (x : Entry). x.changes) (entries_of new)
    ≡ flat_map (λ (x : Entry). x.changes) es ++ e.changes =
    ap (flat_map (λ (x : Entry). x.changes)) is.entries ∙ flat_grown es e in
    let variables = ap (after no_variables) all
    ∙ fold-append changed no_variables (flat_map (λ (x : Entry). x.changes) es) e.changes in
    let seq : unwrap_or (last_of None (entries_of new)) 0 ≡ unwrap_or (last_of None es) 0 + 1 =
    ap (λ (l : List Entry). unwrap_or (last_of None l) 0) is.entries
    ∙ ap (λ (o : Option ℕ). unwrap_or o 0) (last_grown es e) ∙ next in
    ap (λ (v : Variables). let s : StoreValue = record {
      variables = v;
      seq = unwrap_or (last_of None (entries_of new)) 0;
      generation = generation_of new;
    } in s) variables
    ∙ ap (λ (n : ℕ). let s : StoreValue = record {
      variables = after (store_in old).variables e.changes;
      seq = n;
      generation = generation_of new;
    } in s) seq
    ∙ ap (λ (g : ℕ). let s : StoreValue = record {
      variables = after (store_in old).variables e.changes;
      seq = (store_in old).seq + 1;
      generation = g;
    } in s) is.head.generation

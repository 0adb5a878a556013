-- All of a slot stands and byte 0 is the seal: then it is sealed with just that.
use Rattle.std.proofs.Common.{◌≡◌, ◌≢◌, ℕ, ◌+◌, ◌-◌, ◌≤◌, ◌&&◌, ◌||◌, Bool, true, List}
use Rattle.std.proofs.Common.{false, cond, eqb}
use Rattle.std.proofs.Common.{[], ◌∷◌, ◌++◌, length, get_or, take, drop, replicate, nat_le, Some, None}
use Rattle.std.proofs.Common.{refl, sym, ap, ap₂, ◌∙◌, arith, inl, inr, append_assoc}
use Rattle.std.proofs.Common.{length-append}
use Rattle.std.proofs.lemmas.Bool.{eq-eqb, ne_eqb, le-leb}
use Rattle.std.proofs.lemmas.List.{get_or_at, take-append-drop}
use Rattle.std.proofs.lemmas.Slice.Eq.{bytes_eq-Decides}
use Rattle.cu_base.specs.Fields.{field, number_at, bytes_of}
use Rattle.cu_base.proofs.Fields.{number_at_in, field_in, length-bytes_of}
use Rattle.bench_model.specs.Regions.{AgreesOutside, IsOutside}
use Rattle.bench_model.specs.declared.outside_limits.TheConstants.{SLOT_LEAD}
use Rattle.bench_model.proofs.ImageLemmas.{agrees_back}
use Rattle.fmp_slot.specs.declared.slot.SlotHead.{SlotHead}
use Rattle.fmp_slot.specs.declared.limits.TheConstants.{MAX_KEPT_SECTION}
use Rattle.fmp_slot.specs.Held.{HeldSlot, held}
use Rattle.fmp_slot.specs.Layout.{seal, slot_name, is_sealed, slot_of, head_of, format_of}
use Rattle.fmp_slot.specs.Layout.{dep_length_of, front_bytes, IsSlotHead}
use Rattle.fmp_slot.specs.Writing.{IsReceived}

-- ---- tests

all_true : (a b c d e : Bool) → a ≡ true → b ≡ true → c ≡ true → d ≡ true → e ≡ true
    → (a && b && c && d && e) ≡ true
all_true a b c d e ea eb ec ed ee = rw (ea, eb, ec, ed, ee) refl

first_false : (a b c d e : Bool) → a ≡ false → (a && b && c && d && e) ≡ false
first_false a b c d e ea = rw ea refl

-- a slot whose byte at 0 is not the seal is unsealed
pub not_sealed : (bytes : List ℕ) → get_or bytes 0 0 ≢ seal → slot_of bytes ≡ None
not_sealed bytes other =
    ap
    (λ (b : Bool). cond b (Some (held (head_of bytes) (field bytes 64 (dep_length_of bytes))
    (field bytes SLOT_LEAD (number_at bytes 32 4)))) None)
    (first_false _ _ _ _ _ (ne_eqb _ _ other))

-- ---- parts

abbrev made : ℕ → ℕ → ℕ → ℕ → ℕ → ℕ → ℕ → ℕ → SlotHead
made route capsule item serial version floor size section = record {
  ticket = record { route = route; capsule = capsule; item = item; serial = serial };
  version = version;
  floor = floor;
  length = size;
  dep_length = section;
}

same_made : (a a' b b' c c' d d' e e' f f' g g' h h' : ℕ) → a ≡ a' → b ≡ b' → c ≡ c' → d ≡ d'
    → e ≡ e' → f ≡ f' → g ≡ g' → h ≡ h' → made a b c d e f g h ≡ made a' b' c' d' e' f' g' h'
same_made a a' b b' c c' d d' e e' f f' g g' h h' ea eb ec ed ee ef eg eh =
    rw (ea, eb, ec, ed, ee, ef, eg, eh) refl

-- the bytes of a slot, part by part, and what stands behind its section
record AreParts (bytes : List ℕ) (h : SlotHead) (m n f t z i v l y x w d r : List ℕ) : Type 0 where
  is : bytes ≡ (m ++ n ++ f ++ t ++ z ++ i ++ v ++ l ++ y ++ x ++ w ++ d) ++ r
  mark : m ≡ seal ∷ []
  name : n ≡ slot_name
  format : f ≡ bytes_of 4 2
  ticket : t ≡ h.ticket.route ∷ h.ticket.capsule ∷ h.ticket.item ∷ []
  zeros : length z ≡ 5
  serial : i ≡ bytes_of 8 h.ticket.serial
  version : v ≡ bytes_of 4 h.version
  lowest : l ≡ bytes_of 4 h.floor
  size : y ≡ bytes_of 4 h.length
  section : x ≡ bytes_of 4 h.dep_length
  rest : length w ≡ 24

-- what its fields read as
record HasFields (bytes : List ℕ) (h : SlotHead) (dep : List ℕ) : Type 0 where
  mark : get_or bytes 0 0 ≡ seal
  name : field bytes 1 3 ≡ slot_name
  format : format_of bytes ≡ 2
  route : get_or bytes 8 0 ≡ h.ticket.route
  capsule : get_or bytes 9 0 ≡ h.ticket.capsule
  item : get_or bytes 10 0 ≡ h.ticket.item
  serial : number_at bytes 16 8 ≡ h.ticket.serial
  version : number_at bytes 24 4 ≡ h.version
  lowest : number_at bytes 28 4 ≡ h.floor
  size : number_at bytes 32 4 ≡ h.length
  section : number_at bytes 36 4 ≡ h.dep_length
  kept : field bytes 64 (length dep) ≡ dep

byte_in : (whole p : List ℕ) (x : ℕ) (r : List ℕ) (at : ℕ) → whole ≡ p ++ x ∷ r → length p ≡ at
    → get_or whole at 0 ≡ x
byte_in whole p x r at e before = rw e (get_or_at p x r 0 at before)

has_fields : (b : List ℕ) (h : SlotHead) (m n f t z i v l y x w d r : List ℕ) → IsSlotHead h
    → AreParts b h m n f t z i v l y x w d r → HasFields b h d
has_fields b h m n f t z i v l y x w d r widths p =
    let lm : length m ≡ 1 = ap length p.mark in
    let ln : length n ≡ 3 = ap length p.name in
    let lf : length f ≡ 4 = ap length p.format in
    let lt : length t ≡ 3 = ap length p.ticket in
    let li : length i ≡ 8 = ap length p.serial ∙ length-bytes_of 8 h.ticket.serial in
    let lv : length v ≡ 4 = ap length p.version ∙ length-bytes_of 4 h.version in
    let ll : length l ≡ 4 = ap length p.lowest ∙ length-bytes_of 4 h.floor in
    let ly : length y ≡ 4 = ap length p.size ∙ length-bytes_of 4 h.length in
    let lx : length x ≡ 4 = ap length p.section ∙ length-bytes_of 4 h.dep_length in
    let lz : length z ≡ 5 = p.zeros in
    let lw : length w ≡ 24 = p.rest in
    let at_mark : b ≡ [] ++ seal ∷ (n ++ (f ++ (t ++ (z ++ (i ++ (v ++ (l ++ (y ++ (x ++ (w ++ (d ++ r)))))))))))
    = p.is ∙ rw p.mark (simp append_assoc) in
    let rest = z ++ (i ++ (v ++ (l ++ (y ++ (x ++ (w ++ (d ++ r))))))) in
    let at_route : b ≡ (m ++ n ++ f) ++ h.ticket.route ∷ (h.ticket.capsule ∷ h.ticket.item ∷ rest) =
    p.is ∙ rw p.ticket (simp append_assoc) in
    let at_capsule : b ≡ (m ++ n ++ f ++ h.ticket.route ∷ []) ++ h.ticket.capsule ∷ (h.ticket.item ∷ rest) =
    p.is ∙ rw p.ticket (simp append_assoc) in
    let at_item : b ≡ (m ++ n ++ f ++ h.ticket.route ∷ h.ticket.capsule ∷ []) ++ h.ticket.item ∷ rest =
    p.is ∙ rw p.ticket (simp append_assoc) in
    record {
      mark = byte_in b [] seal _ 0 at_mark refl;
      name = field_in b m n (f ++ (t ++ (z ++ (i ++ (v ++ (l ++ (y ++ (x ++ (w ++ (d ++ r)))))))))) 1 3
          (p.is ∙ simp append_assoc) lm ln ∙ p.name;
      format = number_at_in b (m ++ n) f 2 (t ++ rest) 4 4 (p.is ∙ simp append_assoc) p.format
          (simp length-append (omega arith)) (omega arith);
      route = byte_in b (m ++ n ++ f) h.ticket.route _ 8 at_route
          (simp length-append (omega arith));
      capsule = byte_in b (m ++ n ++ f ++ h.ticket.route ∷ []) h.ticket.capsule _ 9 at_capsule
          (simp length-append (omega arith));
      item = byte_in b (m ++ n ++ f ++ h.ticket.route ∷ h.ticket.capsule ∷ []) h.ticket.item _ 10
          at_item (simp length-append (omega arith));
      serial = number_at_in b (m ++ n ++ f ++ t ++ z) i h.ticket.serial
          (v ++ (l ++ (y ++ (x ++ (w ++ (d ++ r)))))) 16 8 (p.is ∙ simp append_assoc) p.serial
          (simp length-append (omega arith)) widths.serial;
      version = number_at_in b (m ++ n ++ f ++ t ++ z ++ i) v h.version
          (l ++ (y ++ (x ++ (w ++ (d ++ r))))) 24 4 (p.is ∙ simp append_assoc) p.version
          (simp length-append (omega arith)) widths.version;
      lowest = number_at_in b (m ++ n ++ f ++ t ++ z ++ i ++ v) l h.floor
          (y ++ (x ++ (w ++ (d ++ r)))) 28 4 (p.is ∙ simp append_assoc) p.lowest
          (simp length-append (omega arith)) widths.floor;
      size = number_at_in b (m ++ n ++ f ++ t ++ z ++ i ++ v ++ l) y h.length
          (x ++ (w ++ (d ++ r))) 32 4 (p.is ∙ simp append_assoc) p.size
          (simp length-append (omega arith)) widths.payload;
      section = number_at_in b (m ++ n ++ f ++ t ++ z ++ i ++ v ++ l ++ y) x h.dep_length
          (w ++ (d ++ r)) 36 4 (p.is ∙ simp append_assoc) p.section
          (simp length-append (omega arith)) widths.section;
      kept = field_in b (m ++ n ++ f ++ t ++ z ++ i ++ v ++ l ++ y ++ x ++ w) d r 64 (length d)
          (p.is ∙ simp append_assoc) (simp length-append (omega arith)) refl;
    }

-- ---- the slot

slot_given : (b : List ℕ) (s : HeldSlot) → is_sealed (length b - SLOT_LEAD) b ≡ true
    → head_of b ≡ s.head → field b 64 (dep_length_of b) ≡ s.dep
    → field b SLOT_LEAD (number_at b 32 4) ≡ s.payload → slot_of b ≡ Some s
slot_given b s is head dep payload = rw is (rw (head, dep, payload) refl)

fields_sealed : (b : List ℕ) (s : HeldSlot) → HasFields b s.head s.dep
    → s.head.dep_length ≡ length s.dep → length s.dep ≤ MAX_KEPT_SECTION
    → s.head.length ≡ length s.payload → SLOT_LEAD + length s.payload ≤ length b
    → field b SLOT_LEAD (length s.payload) ≡ s.payload → slot_of b ≡ Some s
fields_sealed b s f dep_length section size room payload =
    let second : eqb (format_of b) 1 ≡ false = ap (λ (n : ℕ). eqb n 1) f.format in
    let known : (eqb (format_of b) 1 || eqb (format_of b) 2) ≡ true =
    ap (λ (n : ℕ). eqb n 1 || eqb n 2) f.format in
    let dep_at : dep_length_of b ≡ s.head.dep_length =
    ap (λ (t : Bool). cond t 0 (number_at b 36 4)) second ∙ f.section in
    let fits : nat_le (number_at b 32 4) (length b - SLOT_LEAD) ≡ true =
    le-leb _ _ (omega (arith, f.size)) in
    let kept : nat_le (dep_length_of b) MAX_KEPT_SECTION ≡ true = le-leb _ _ (omega (arith, dep_at)) in
    slot_given b s
    (all_true _ _ _ _ _ (eq-eqb _ _ f.mark)
    ((bytes_eq-Decides _ _).1 f.name) known fits kept)
    (same_made _ _ _ _ _ _ _ _ _ _ _ _ _ _ _ _ f.route f.capsule f.item f.serial f.version f.lowest
    f.size dep_at)
    (ap (λ (n : ℕ). field b 64 n) (dep_at ∙ dep_length) ∙ f.kept)
    (ap (λ (n : ℕ). field b SLOT_LEAD n) (f.size ∙ size) ∙ payload)

by_head : (bytes : List ℕ) → 1 ≤ length bytes → bytes ≡ get_or bytes 0 0 ∷ drop 1 bytes
by_head [] some = absurd (omega arith)
by_head (b ∷ bytes) some = refl

-- a range may be taken wider
pub wider : (at n m : ℕ) (old new : List ℕ) → n ≤ m → AgreesOutside at n old new
    → AgreesOutside at m old new
wider at n m old new more agrees = record {
  long = agrees.long;
  same = λ k out. agrees.same k (out_of k out);
}
  where
    out_of : (k : ℕ) → IsOutside at m k → IsOutside at n k
    out_of k (inl below) = inl below
    out_of k (inr above) = inr (omega arith)

pub received_sealed : (s : HeldSlot) (old image : List ℕ) → IsReceived s old
    → AgreesOutside 0 1 old image → get_or image 0 0 ≡ seal → slot_of image ≡ Some s
received_sealed s old image received agrees mark =
    let front = front_bytes s.head s.dep in
    let r = drop (length front) (drop 1 image) in
    let same : drop 1 image ≡ drop 1 old = agrees_back 0 1 old image agrees in
    let begins : take (length front) (drop 1 image) ≡ front =
    ap (λ (l : List ℕ). take (length front) l) same ∙ received.front in
    let behind : drop 1 image ≡ front ++ r =
    sym (take-append-drop (length front) (drop 1 image)) ∙ ap (λ (l : List ℕ). l ++ r) begins in
    let long : length image ≡ length old = agrees.long in
    let whole : image ≡ seal ∷ (front ++ r) =
    by_head image (omega (arith, received.room)) ∙ ap₂ (λ (b : ℕ) (l : List ℕ). b ∷ l) mark behind in
    let payload : field image SLOT_LEAD (length s.payload) ≡ s.payload =
    ap (λ (l : List ℕ). take (length s.payload) l)
    (agrees_back 0 SLOT_LEAD old image (wider 0 1 SLOT_LEAD old image (omega arith) agrees))
    ∙ received.payload in
    let fields = has_fields image s.head (seal ∷ []) slot_name (bytes_of 4 2)
    (s.head.ticket.route ∷ s.head.ticket.capsule ∷ s.head.ticket.item ∷ []) (replicate 5 0)
    (bytes_of 8 s.head.ticket.serial) (bytes_of 4 s.head.version) (bytes_of 4 s.head.floor)
    (bytes_of 4 s.head.length) (bytes_of 4 s.head.dep_length) (replicate 24 0) s.dep r
    received.widths
    (record {
      is = whole;
      mark = refl;
      name = refl;
      format = refl;
      ticket = refl;
      zeros = refl;
      serial = refl;
      version = refl;
      lowest = refl;
      size = refl;
      section = refl;
      rest = refl;
    }) in
    fields_sealed image s fields received.dep_length received.section received.payload_length
    (omega (arith, received.room)) payload

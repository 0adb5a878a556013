-- What is spelled is read: parts that are written one behind another are found at their places, and
-- nothing is refused.
use Rattle.std.proofs.Common.{◌≡◌, ℕ, ◌+◌, ◌-◌, ◌≤◌, Bool, true, false, cond, List, [], ◌++◌}
use Rattle.std.proofs.Common.{length, take, drop, Option, Some, None, is_some, IfSome, refl, sym}
use Rattle.std.proofs.Common.{ap, subst, ◌∙◌, arith, append_assoc, length-append}
use Rattle.std.proofs.lemmas.Bool.{le-ltb, or_from, eq-eqb, not_from_true}
use Rattle.std.proofs.lemmas.List.{drop_at, take_at}
use Rattle.std.proofs.lemmas.Slice.Eq.{bytes_eq-Decides}
use Rattle.cu_base.specs.Fields.{field, number_at, bytes_of}
use Rattle.cu_base.specs.Refusals.{first_refusal}
use Rattle.cu_base.proofs.Fields.{field_in, length-bytes_of, number_at_in}
use Rattle.cu_base.proofs.Rows.{none_refused}
use Rattle.image_parts.specs.declared.value.PayloadHead.{PayloadHead}
use Rattle.image_parts.specs.Authentication.{IsAuthentication, authentication_at}
use Rattle.image_parts.specs.Authentication.{authentication_bytes, authentication_rows}
use Rattle.image_parts.specs.Authentication.{authentication_size}
use Rattle.image_parts.specs.Cuts.{IsCutInto, auth_at, auth_end, behind_auth, behind_section}
use Rattle.image_parts.specs.Cuts.{dep_at}
use Rattle.image_parts.specs.Parts.{IsPartsOf, auth_bytes, dep_bytes}
use Rattle.image_parts.specs.PayloadHeader.{IsPayloadHead, header_size, payload_head_at}
use Rattle.image_parts.specs.PayloadHeader.{payload_head_bytes, payload_header_rows, signature}
use Rattle.image_parts.specs.Section.{IsOneSection, TakesSection}
use Rattle.image_parts.specs.Support.{has_authentication, has_section}
use Rattle.image_parts.specs.Values.{AuthValue, PartsValue}

-- ---- authentication data

-- the authentication data at the front is this
record IsAuthRead (image : List ℕ) (a : AuthValue) : Type 0 where
  pub none : first_refusal (authentication_rows image) ≡ None
  pub size : authentication_size image ≡ length (authentication_bytes a)
  pub value : authentication_at image ≡ a

abbrev auth_made : ℕ → List ℕ → List ℕ → AuthValue
auth_made monotonic cert_type cert =
    record { monotonic = monotonic; cert_type = record { bytes = cert_type }; cert = cert }

same_auth : (m m' : ℕ) (t t' c c' : List ℕ) → m ≡ m' → t ≡ t' → c ≡ c'
    → auth_made m t c ≡ auth_made m' t' c'
same_auth m m' t t' c c' em et ec = rw (em, et, ec) refl

same_six : (m m' l l' r r' k k' t t' c c' : List ℕ) → m ≡ m' → l ≡ l' → r ≡ r' → k ≡ k' → t ≡ t'
    → c ≡ c' → m ++ l ++ r ++ k ++ t ++ c ≡ m' ++ l' ++ r' ++ k' ++ t' ++ c'
same_six m m' l l' r r' k k' t t' c c' em el er ek et ec = rw (em, el, er, ek, et, ec) refl

auth_fields : (b m l r k t c rest : List ℕ) (a : AuthValue) → IsAuthentication a
    → b ≡ (m ++ l ++ r ++ k ++ t ++ c) ++ rest → m ≡ bytes_of 8 a.monotonic
    → l ≡ bytes_of 4 (24 + length a.cert) → r ≡ bytes_of 2 0x0200 → k ≡ bytes_of 2 0x0EF1
    → t ≡ a.cert_type.bytes → c ≡ a.cert → IsAuthRead b a
auth_fields b m l r k t c rest a is e em el er ek et ec =
    let lm : length m ≡ 8 = ap length em ∙ length-bytes_of 8 a.monotonic in
    let ll : length l ≡ 4 = ap length el ∙ length-bytes_of 4 (24 + length a.cert) in
    let lr : length r ≡ 2 = ap length er ∙ length-bytes_of 2 0x0200 in
    let lk : length k ≡ 2 = ap length ek ∙ length-bytes_of 2 0x0EF1 in
    let lt : length t ≡ 16 = ap length et ∙ is.cert_type in
    let lc : length c ≡ length a.cert = ap length ec in
    let long : length b ≡ 32 + length c + length rest = rw e (simp length-append (omega arith)) in
    let all : length (m ++ l ++ r ++ k ++ t ++ c) ≡ 32 + length c =
    simp length-append (omega arith) in
    let counted : length (authentication_bytes a) ≡ 32 + length c =
    ap length
    (sym (same_six m (bytes_of 8 a.monotonic) l (bytes_of 4 (24 + length a.cert)) r
    (bytes_of 2 0x0200) k (bytes_of 2 0x0EF1) t a.cert_type.bytes c a.cert em el er ek et ec))
    ∙ all in
    let monotonic : number_at b 0 8 ≡ a.monotonic =
    number_at_in b [] m a.monotonic (l ++ (r ++ (k ++ (t ++ (c ++ rest))))) 0 8
    (e ∙ simp append_assoc) em refl is.monotonic in
    let size : number_at b 8 4 ≡ 24 + length a.cert =
    number_at_in b m l (24 + length a.cert) (r ++ (k ++ (t ++ (c ++ rest)))) 8 4
    (e ∙ simp append_assoc) el lm is.cert in
    let revision : number_at b 12 2 ≡ 0x0200 =
    number_at_in b (m ++ l) r 0x0200 (k ++ (t ++ (c ++ rest))) 12 2 (e ∙ simp append_assoc) er
    (simp length-append (omega arith)) (omega arith) in
    let kind : number_at b 14 2 ≡ 0x0EF1 =
    number_at_in b (m ++ l ++ r) k 0x0EF1 (t ++ (c ++ rest)) 14 2 (e ∙ simp append_assoc) ek
    (simp length-append (omega arith)) (omega arith) in
    let cert_type : field b 16 16 ≡ a.cert_type.bytes =
    field_in b (m ++ l ++ r ++ k) t (c ++ rest) 16 16 (e ∙ simp append_assoc)
    (simp length-append (omega arith)) lt ∙ et in
    let end : length c ≡ authentication_size b - 32 = omega (arith, size, lc) in
    let cert : field b 32 (authentication_size b - 32) ≡ a.cert =
    field_in b (m ++ l ++ r ++ k ++ t) c rest 32 (authentication_size b - 32)
    (e ∙ simp append_assoc) (simp length-append (omega arith)) end ∙ ec in
    let low : 24 ≤ number_at b 8 4 = omega (arith, size) in
    let within : authentication_size b ≤ length b = omega (arith, size, long, lc) in
    let there : 32 ≤ length b = omega (arith, long) in
    record {
      none = none_refused (authentication_rows b) (
        le-ltb _ _ there,
        (
          or_from _ _ (le-ltb _ _ low) (le-ltb _ _ within),
          (not_from_true _ (eq-eqb _ _ revision), (not_from_true _ (eq-eqb _ _ kind), tt)),
        ),
      );
      size = omega (arith, size, counted);
      value = same_auth (number_at b 0 8) a.monotonic (field b 16 16) a.cert_type.bytes
          (field b 32 (authentication_size b - 32)) a.cert monotonic cert_type cert;
    }

-- ---- authentication data that may be due

-- the authentication data, where it is due, is this, and none where it is not
record IsFront (due : Bool) (image : List ℕ) (o : Option AuthValue) : Type 0 where
  pub none : first_refusal (cond due (authentication_rows image) []) ≡ None
  pub size : cond due (authentication_size image) 0 ≡ length (auth_bytes o)
  pub value : cond due (Some (authentication_at image)) None ≡ o

front_read : (due : Bool) (o : Option AuthValue) (image rest : List ℕ) → is_some o ≡ due
    → IfSome o IsAuthentication → image ≡ auth_bytes o ++ rest → IsFront due image o
front_read true (Some a) image rest there is e =
    let r = auth_fields image (bytes_of 8 a.monotonic) (bytes_of 4 (24 + length a.cert))
    (bytes_of 2 0x0200) (bytes_of 2 0x0EF1) a.cert_type.bytes a.cert rest a is e refl refl refl refl
    refl refl in
    record { none = r.none; size = r.size; value = ap (λ (x : AuthValue). Some x) r.value }
front_read true None image rest there is e = absurd cc
front_read false (Some a) image rest there is e = absurd cc
front_read false None image rest there is e = record { none = refl; size = refl; value = refl }

-- ---- a section that may be due

section_taken : (due : Bool) (o : Option (List ℕ)) (bytes rest : List ℕ) → is_some o ≡ due
    → IfSome o IsOneSection → bytes ≡ dep_bytes o ++ rest
    → TakesSection due bytes (length (dep_bytes o))
section_taken true (Some d) bytes rest there is e = record {
  there = omega (arith, ap length e, length-append d rest);
  section = subst IsOneSection (sym (ap (take (length d)) e ∙ take_at d rest (length d) refl)) is;
}
section_taken true None bytes rest there is e = absurd cc
section_taken false (Some d) bytes rest there is e = absurd cc
section_taken false None bytes rest there is e = refl

section_value : (due : Bool) (o : Option (List ℕ)) (bytes rest : List ℕ) → is_some o ≡ due
    → bytes ≡ dep_bytes o ++ rest → cond due (Some (take (length (dep_bytes o)) bytes)) None ≡ o
section_value true (Some d) bytes rest there e =
    ap (λ (l : List ℕ). Some l) (ap (take (length d)) e ∙ take_at d rest (length d) refl)
section_value true None bytes rest there e = absurd cc
section_value false (Some d) bytes rest there e = absurd cc
section_value false None bytes rest there e = refl

-- ---- the payload header

-- the payload header at the front is this, and these bytes stand behind it
record IsHeadRead (rest : List ℕ) (h : PayloadHead) (extra payload : List ℕ) : Type 0 where
  pub none : (at : ℕ) → first_refusal (payload_header_rows rest at) ≡ None
  pub value : payload_head_at rest ≡ h
  pub behind_fields : field rest 16 (header_size rest - 16) ≡ extra
  pub behind_header : drop (header_size rest) rest ≡ payload

abbrev head_made : ℕ → ℕ → ℕ → PayloadHead
head_made header_size version lowest =
    record { header_size = header_size; version = version; lowest = lowest }

same_head : (s s' v v' l l' : ℕ) → s ≡ s' → v ≡ v' → l ≡ l' → head_made s v l ≡ head_made s' v' l'
same_head s s' v v' l l' es ev el = rw (es, ev, el) refl

head_fields : (b s z v l extra payload : List ℕ) (h : PayloadHead) → IsPayloadHead h extra → b ≡ s
    ++ z ++ v ++ l ++ extra ++ payload → s ≡ signature → z ≡ bytes_of 4 h.header_size
    → v ≡ bytes_of 4 h.version → l ≡ bytes_of 4 h.lowest → IsHeadRead b h extra payload
head_fields b s z v l extra payload h is e es ez ev el =
    let ls : length s ≡ 4 = ap length es in
    let lz : length z ≡ 4 = ap length ez ∙ length-bytes_of 4 h.header_size in
    let lv : length v ≡ 4 = ap length ev ∙ length-bytes_of 4 h.version in
    let ll : length l ≡ 4 = ap length el ∙ length-bytes_of 4 h.lowest in
    let long : length b ≡ 16 + length extra + length payload =
    rw e (simp length-append (omega arith)) in
    let letters : field b 0 4 ≡ signature =
    field_in b [] s (z ++ (v ++ (l ++ (extra ++ payload)))) 0 4 (e ∙ simp append_assoc) refl ls
    ∙ es in
    let size : number_at b 4 4 ≡ h.header_size =
    number_at_in b s z h.header_size (v ++ (l ++ (extra ++ payload))) 4 4
    (e ∙ simp append_assoc) ez ls is.width in
    let version : number_at b 8 4 ≡ h.version =
    number_at_in b (s ++ z) v h.version (l ++ (extra ++ payload)) 8 4 (e ∙ simp append_assoc) ev
    (simp length-append (omega arith)) is.version in
    let lowest : number_at b 12 4 ≡ h.lowest =
    number_at_in b (s ++ z ++ v) l h.lowest (extra ++ payload) 12 4 (e ∙ simp append_assoc) el
    (simp length-append (omega arith)) is.lowest in
    let all : length (s ++ z ++ v ++ l ++ extra) ≡ header_size b =
    simp length-append (omega (arith, ls, lz, lv, ll, size, is.header_size)) in
    let there : 16 ≤ length b = omega (arith, long) in
    let low : 16 ≤ header_size b = omega (arith, size, is.header_size) in
    let within : header_size b ≤ length b = omega (arith, size, is.header_size, long) in
    let counted : length extra ≡ header_size b - 16 = omega (arith, size, is.header_size) in
    record {
      none = λ at. none_refused (payload_header_rows b at) (
        le-ltb _ _ there,
        (
          not_from_true _ ((bytes_eq-Decides _ _).1 letters),
          (or_from _ _ (le-ltb _ _ low) (le-ltb _ _ within), tt),
        ),
      );
      value = same_head (header_size b) h.header_size (number_at b 8 4) h.version
          (number_at b 12 4) h.lowest size version lowest;
      behind_fields = field_in b (s ++ z ++ v ++ l) extra payload 16 (header_size b - 16)
          (e ∙ append_assoc (s ++ z ++ v ++ l) extra payload)
          (simp length-append (omega arith)) counted;
      behind_header = ap (drop (header_size b)) e
          ∙ drop_at (s ++ z ++ v ++ l ++ extra) payload (header_size b) all;
    }

-- ---- the image

abbrev parts_made : Option AuthValue → Option (List ℕ) → PayloadHead → List ℕ → List ℕ → PartsValue
parts_made auth dep head extra payload =
    record { auth = auth; dep = dep; head = head; extra = extra; payload = payload }

same_parts : (a a' : Option AuthValue) (d d' : Option (List ℕ)) (h h' : PayloadHead)
    (e e' p p' : List ℕ) → a ≡ a' → d ≡ d' → h ≡ h' → e ≡ e' → p ≡ p'
    → parts_made a d h e p ≡ parts_made a' d' h' e' p'
same_parts a a' d d' h h' e e' p p' ea ed eh ee ep = rw (ea, ed, eh, ee, ep) refl

regrouped : (a d h e p : List ℕ) → a ++ d ++ h ++ e ++ p ≡ a ++ (d ++ (h ++ e ++ p))
regrouped a d h e p = simp append_assoc

behind : (image a d rest : List ℕ) (start : ℕ) → image ≡ a ++ (d ++ rest) → start ≡ length a
    → drop start image ≡ d ++ rest
behind image a d rest start e n = ap (drop start) e ∙ drop_at a (d ++ rest) start (sym n)

behind_both : (image a d rest : List ℕ) (start : ℕ) → image ≡ a ++ (d ++ rest) → start ≡ length a
    → drop (start + length d) image ≡ rest
behind_both image a d rest start e n =
    ap (drop (start + length d)) (e ∙ sym (append_assoc a d rest))
    ∙ drop_at (a ++ d) rest (start + length d) (omega (arith, n, length-append a d))

pub parts_are_cut : (image : List ℕ) (support : ℕ) (p : PartsValue) → IsPartsOf image support p
    → IsCutInto image support p
parts_are_cut image support p h =
    let rest = payload_head_bytes p.head ++ p.extra ++ p.payload in
    let d = dep_bytes p.dep in
    let whole : image ≡ auth_bytes p.auth ++ (d ++ rest) =
    h.whole ∙ regrouped (auth_bytes p.auth) d (payload_head_bytes p.head) p.extra p.payload in
    let front = front_read (has_authentication support) p.auth image
    (d ++ rest) h.auth h.authentication whole in
    let section = behind image (auth_bytes p.auth) d rest
    (auth_end image support) whole front.size in
    let end = behind_both image (auth_bytes p.auth) d rest
    (auth_end image support) whole front.size in
    let head = head_fields (behind_section image support (length d)) signature
    (bytes_of 4 p.head.header_size) (bytes_of 4 p.head.version)
    (bytes_of 4 p.head.lowest) p.extra p.payload p.head h.head end refl refl refl refl in
    record {
      auth = front.none;
      size = length d;
      section = section_taken (has_section support) p.dep
          (behind_auth image support) rest h.dep h.section section;
      head = head.none (auth_end image support + length d);
      parts = sym
          (same_parts (auth_at image support) p.auth
          (dep_at image support (auth_end image support) (length d)) p.dep
          (payload_head_at (behind_section image support (length d))) p.head _ p.extra _ p.payload
          front.value
          (section_value (has_section support) p.dep (behind_auth image support) rest h.dep section)
          head.value head.behind_fields head.behind_header);
    }

-- The verdict on a file, by its first bytes and by what was found of its body.
use Rattle.std.proofs.Common.{◌≡◌, ℕ, ◌+◌, ◌-◌, ◌<◌, ◌≤◌, List, ◌++◌, length}
use Rattle.std.proofs.Common.{length-append, refl, sym, ap, ◌∙◌, arith}
use Rattle.std.specs.Prelude.{Option, None, Result, Ok, IsErrOf}
use Rattle.std.specs.Io.KnownBytes.{IsAtEnd}
use Rattle.std.proofs.lemmas.Bool.{cond-true, cond-false, lt-ltb, le-ltb}
use Rattle.std.proofs.lemmas.List.{take_at}
use Rattle.cu_base.specs.Refusals.{first_refusal}
use Rattle.cu_base.specs.declared.limits.TheConstants.{MAX_CAPSULE_BYTES}
use Rattle.cu_io.specs.Streams.{Progress, Goes, Passes}
use Rattle.cu_io.proofs.Taking.{goes_after, passes_after}
use Rattle.fmp_headers.specs.CapsuleHeader.{image_size, capsule_header, capsule_header_fields}
use Rattle.fmp_headers.specs.CapsuleHeader.{capsule_header_rows}
use Rattle.fmp_headers.specs.declared.capsule.CapsuleHeader.{CapsuleHeader}
use Rattle.fmp_headers.specs.declared.faults.HeaderFault.{HeaderFault}
use Rattle.fmp_headers.proofs.Headers.{header_or_ok}
use Rattle.capsule_grammar.specs.Refusals.{Answers, capsule_rows, body_rows}
use Rattle.capsule_grammar.specs.declared.refusal.Refusal.{Refusal}
use Rattle.capsule_grammar.specs.declared.refusal.Why.{Why}
use Rattle.capsule_grammar.proofs.FrontLemmas.{begins_append, header_same}
use Rattle.cu_base.proofs.Rows.{first-none}
use Rattle.capsule_tool.specs.Verdicts.{verdict_by, verdict_of}
use Rattle.capsule_tool.specs.Scans.{TellsFile, IsCutFile, IsFound}
use Rattle.capsule_tool.specs.declared.verdict.Verdict.{Verdict}
use Rattle.capsule_tool.specs.declared.verdict.Verdict.TheVariants.{Whole, Trailing}

-- what stands behind the fields changes nothing of the header
pub header_behind : (bytes rest : List ℕ) → 28 ≤ length bytes
    → capsule_header (bytes ++ rest) ≡ capsule_header bytes
header_behind bytes rest long =
    header_same (begins_append bytes rest (length bytes + length rest) refl) (omega (arith, long))

-- CapsuleImageSize of a file whose header was read
pub size_read : (file : List ℕ) (header : CapsuleHeader) (read : Result CapsuleHeader HeaderFault)
    → capsule_header file ≡ read → read ≡ Ok header → image_size file ≡ header.image_size
size_read file header read same is =
    ap (λ (h : CapsuleHeader). h.image_size)
    (header_or_ok (first_refusal (capsule_header_rows file)) (capsule_header_fields file) header
    (same ∙ is)).1

accepted : (file : List ℕ) → first_refusal (capsule_rows file) ≡ None
    → first_refusal (body_rows file) ≡ None → verdict_of file ≡ verdict_by None file
accepted file header body = ap (λ refused. verdict_by refused file)
    (first-none (capsule_rows file) (body_rows file) header ∙ body)

pub verdict_trailing : (file : List ℕ) (n size : ℕ) → first_refusal (capsule_rows file) ≡ None
    → first_refusal (body_rows file) ≡ None → image_size file ≡ n → length file ≡ size → n < size
    → Trailing n ≡ verdict_of file
verdict_trailing file n size header body is long more =
    sym (accepted file header body
    ∙ (cond-true _ _ _ (lt-ltb (image_size file) (length file) (omega (arith, is, long, more)))
    ∙ ap Trailing is))

pub verdict_whole : (file : List ℕ) (n size : ℕ) → first_refusal (capsule_rows file) ≡ None
    → first_refusal (body_rows file) ≡ None → image_size file ≡ n → length file ≡ size → size ≤ n
    → Whole n ≡ verdict_of file
verdict_whole file n size header body is long all =
    sym (accepted file header body
    ∙ (cond-false _ _ _ (le-ltb (image_size file) (length file) (omega (arith, is, long, all)))
    ∙ ap Whole is))

-- ---- a file that was scanned and then read to its end

-- all bytes, and the verdict on them
abbrev pub IsJudged : Progress → Progress → Verdict → Type 0
IsJudged a c verdict = (bytes : List ℕ) × Goes bytes a c × IsAtEnd c.left
    × (length bytes ≤ MAX_CAPSULE_BYTES) × (verdict ≡ verdict_of bytes)

pub judged_on : (read : Result CapsuleHeader HeaderFault) (a b c : Progress)
    (refused : Option (ℕ × Why)) (found : Result (Unit {0}) Refusal) (verdict : Verdict)
    → a.place ≡ 0
    → TellsFile read a b refused → ((other : Option (ℕ × Why)) → other ≡ refused
    → Answers found other)
    → (rest : List ℕ) × Goes rest b c × IsAtEnd c.left × (c.place ≤ MAX_CAPSULE_BYTES)
    × ((file : List ℕ) → IsFound read c.place found file → verdict ≡ verdict_of file)
    → IsJudged a c verdict
judged_on read a b c refused found verdict begun (bytes, goes, long, few, header, tells) answers
    (rest, then, end, limit, by) =
    let all : length (bytes ++ rest) ≡ c.place =
    omega (arith, length-append bytes rest, goes.place, then.place, begun) in (
      bytes ++ rest,
      goes_after bytes rest a b c goes then,
      end,
      omega (arith, all, limit),
      by (bytes ++ rest) (record {
        long = all;
        header = header_behind bytes rest long ∙ header;
        body = λ none. answers _ (tells (bytes ++ rest) (take_at bytes rest (length bytes) refl)
            none);
      }),
    )

pub judged_cut : (read : Result CapsuleHeader HeaderFault) (a b : Progress) (size : ℕ)
    (found : Result (Unit {0}) Refusal) (verdict : Verdict) → a.place ≡ 0 → size ≡ b.place
    → IsCutFile read a b
    → ((file : List ℕ) → IsFound read size found file → verdict ≡ verdict_of file)
    → IsJudged a b verdict
judged_cut read a b size found verdict begun at (bytes, goes, end, few, header, refused) by =
    let all : length bytes ≡ size = omega (arith, goes.place, begun, at) in (
      bytes,
      goes,
      end,
      few,
      by bytes (record {
        long = all;
        header = header;
        body = λ none. absurd (refused none);
      }),
    )

pub passed_on : (read : Result CapsuleHeader HeaderFault) (a b c : Progress)
    (refused : Option (ℕ × Why)) → a.place ≡ 0
    → TellsFile read a b refused → Passes (MAX_CAPSULE_BYTES + 1 - b.place) b c
    → Passes (MAX_CAPSULE_BYTES + 1) a c
passed_on read a b c refused begun (bytes, goes, long, few, header, tells) passes =
    let sum : length bytes + (MAX_CAPSULE_BYTES + 1 - b.place) ≡ MAX_CAPSULE_BYTES + 1 =
    omega (arith, goes.place, begun, few) in
    rw (sym sum) (passes_after (length bytes) (MAX_CAPSULE_BYTES + 1 - b.place) a b c
    (bytes, refl, goes) passes)

pub no_error : {T E : Type 0} (x : T) (e : E) → IsErrOf (Ok x) e → ⊥
no_error x e is = cc

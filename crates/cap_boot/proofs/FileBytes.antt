-- The bytes of a file, read in pieces.
use Rattle.std.proofs.Common.{◌≡◌, ◌+◌, ◌++◌, ◌∙◌, ℕ, List, ap, take, true}
use Rattle.bench_model.specs.Bench.{BenchValue, Contents}
use Rattle.bench_model.specs.Files.{ListedFile, file_bytes}
use Rattle.cu_base.specs.Fields.{field}
use Rattle.cu_base.proofs.Fields.{next_field}

-- one more piece
pub bytes_more : (old now : BenchValue) (a : ListedFile) (n at size long : ℕ)
    (front more : List ℕ) → now.contents ≡ old.contents → n ≡ a.serial → long ≡ size
    → (old.contents.told ≡ true → front
    ≡ take at (file_bytes a.serial old.contents.rest.folder.files))
    → (now.contents.told ≡ true → more
    ≡ front ++ field (file_bytes n now.contents.rest.folder.files) at long)
    → old.contents.told ≡ true
    → more ≡ take (at + size) (file_bytes a.serial old.contents.rest.folder.files)
bytes_more old now a n at size long front more same is length so_far read told =
    let files = old.contents.rest.folder.files in
    read (ap (λ (s : Contents). s.told) same ∙ told)
    ∙ ap (λ (s : Contents). front ++ field (file_bytes n s.rest.folder.files) at long) same
    ∙ ap (λ (k : ℕ). front ++ field (file_bytes k files) at long) is
    ∙ ap (λ (k : ℕ). front ++ field (file_bytes a.serial files) at k) length
    ∙ next_field (file_bytes a.serial files) front at size (so_far told)

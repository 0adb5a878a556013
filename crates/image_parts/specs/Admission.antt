-- Which update images a platform admits: those whose digest is listed.
use Rattle.std.specs.Prelude.{ℕ, Bool, List}
use Rattle.std.specs.List.{list_any}
use Rattle.std.specs.Str.{bytes_eq}
use Rattle.cu_base.specs.declared.digest.Digest.{Digest}
use Rattle.sha2.specs.Sha256.{sha256}

-- the SHA-256 of the whole update image (FIPS 180-4) is listed
abbrev pub is_admitted : List Digest → List ℕ → Bool
is_admitted digests image = list_any (λ d. bytes_eq d.bytes (sha256 image)) digests

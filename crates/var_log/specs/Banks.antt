-- The two banks of a flash, and the store that their bytes are (own format). A bank begins with a
-- gate, the name 'CUV', the format (u32) and the generation (u64). Records follow from place 16.
use Rattle.std.specs.Prelude.{ℕ, ◌+◌, ◌==◌, ◌&&◌, ◌||◌, Bool, List, [], ◌∷◌, ◌++◌, length}
use Rattle.std.specs.Prelude.{drop, get_or, fold, Option, Some, None, option_map, unwrap_or, nat_lt}
use Rattle.std.specs.Prelude.{if◌then◌else◌}
use Rattle.std.specs.List.{flat_map}
use Rattle.std.specs.Str.{bytes_eq}
use Rattle.cu_base.specs.Fields.{bytes_of, field, number_at}
use Rattle.var_log.specs.declared.change.Change.{Change}
use Rattle.var_log.specs.declared.limits.TheConstants.{OPEN_GATE, CLOSED_GATE}
use Rattle.var_log.specs.Changes.{Variables, no_variables, after}
use Rattle.var_log.specs.Records.{Entry, entries_in, record_bytes}

-- the name that a bank carries, 'CUV'
abbrev pub bank_name : List ℕ
bank_name = 67 ∷ 85 ∷ 86 ∷ []

-- a bank's header behind its gate
abbrev pub behind_bank_gate : ℕ → ℕ → List ℕ
behind_bank_gate format generation = bank_name ++ bytes_of 4 format ++ bytes_of 8 generation

-- the format that a bank names
abbrev pub format_of : List ℕ → ℕ
format_of bytes = number_at bytes 4 4

-- the generation that a bank names
abbrev pub generation_of : List ℕ → ℕ
generation_of bytes = number_at bytes 8 8

-- the name and a known format stand behind a bank's gate
abbrev pub is_headed : List ℕ → Bool
is_headed bytes =
    bytes_eq (field bytes 1 3) bank_name && (format_of bytes == 1 || format_of bytes == 2)

-- a bank is open where its gate is, and the name and a known format stand behind it
abbrev pub is_open : List ℕ → Bool
is_open bytes = get_or bytes 0 0 == OPEN_GATE && is_headed bytes

-- of two banks the open one of the greater generation: 0 where they are equal
abbrev pub choice : Bool → Bool → Bool → Option ℕ
choice first second newer =
    if first
    then (if second && newer then Some 1 else Some 0)
    else (if second then Some 1 else None)

-- which bank the log is in
abbrev pub log_bank : (ℕ → List ℕ) → Option ℕ
log_bank banks =
    choice (is_open (banks 0)) (is_open (banks 1))
    (nat_lt (generation_of (banks 0)) (generation_of (banks 1)))

-- the records of a bank
abbrev pub entries_of : List ℕ → List Entry
entries_of bytes = entries_in (length bytes) (format_of bytes) None (drop 16 bytes)

-- the bytes that records take
abbrev pub taken : List Entry → ℕ
taken [] = 0
taken (e ∷ es) = e.size + taken es

-- the place at which the records of a bank end
abbrev pub end_of : List ℕ → ℕ
end_of bytes = 16 + taken (entries_of bytes)

-- the number of the last of these records, or what there was before
abbrev pub last_of : Option ℕ → List Entry → Option ℕ
last_of = fold (λ before e. Some e.number)

-- a store: the variables, the number of the last batch, and the generation of the bank
pub record StoreValue : Type 0 where
  pub variables : Variables
  pub seq : ℕ
  pub generation : ℕ

-- the store that a bank with an open header is
abbrev pub store_in : List ℕ → StoreValue
store_in bytes = record {
  variables = after no_variables (flat_map (λ e. e.changes) (entries_of bytes));
  seq = unwrap_or (last_of None (entries_of bytes)) 0;
  generation = generation_of bytes;
}

-- the store that banks 0 and 1 are, or none where neither is open
unfoldable pub store_of : (ℕ → List ℕ) → Option StoreValue
store_of banks = option_map (λ k. store_in (banks k)) (log_bank banks)

-- a store once a batch was appended
abbrev pub with_batch : StoreValue → List Change → StoreValue
with_batch s changes = record {
  variables = after s.variables changes;
  seq = s.seq + 1;
  generation = s.generation;
}

-- the store of an empty log of generation 1
abbrev pub empty_store : StoreValue
empty_store = record { variables = no_variables; seq = 0; generation = 1 }

-- what is written behind the gate of a bank that becomes an empty log: its header, and a closed
-- gate where the first record would stand
abbrev pub empty_bank : List ℕ
empty_bank = behind_bank_gate 2 1 ++ CLOSED_GATE ∷ []

-- what is written behind the gate of a bank that is reclaimed: its header, one record of what lives
-- under the last number, and a closed gate behind it
abbrev pub reclaimed : ℕ → ℕ → List Change → List ℕ
reclaimed generation seq live =
    behind_bank_gate 2 generation ++ (record_bytes 2 seq live ++ CLOSED_GATE ∷ [])

-- the store once it was reclaimed
abbrev pub reclaimed_store : StoreValue → StoreValue
reclaimed_store s = record s { generation = s.generation + 1 }

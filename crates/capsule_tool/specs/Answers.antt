-- What a run answers: its status and the line that it writes.
use Rattle.std.specs.Prelude.{ℕ, List, ◌++◌, codes}
use Rattle.std.specs.Fmt.{decimal}
use Rattle.capsule_tool.specs.declared.answer.Answer.{Answer}
use Rattle.capsule_tool.specs.declared.status.Status.TheVariants.{Done, Refused, Usage, Faulty}
use Rattle.capsule_tool.specs.declared.status.Status.TheVariants.{Unread, Long, Later}

-- the words have none of the forms
abbrev pub usage : Answer
usage = record {
  status = Usage;
  text = codes
      "usage: check FILE | show FILE | rebuild FILE | make RECIPE | play BOARD SCRIPT | load N\n";
}

-- a capsule of this many bytes
abbrev pub done : ℕ → Answer
done length = record { status = Done; text = codes "ok " ++ decimal length ++ codes "\n" }

-- bytes that are refused at a place, for a cause of this name
abbrev pub refused : ℕ → List ℕ → Answer
refused at name = record {
  status = Refused;
  text = codes "refused "
      ++ (decimal at ++ (codes " " ++ (name ++ codes "\n")));
}

-- a board or a recipe that is refused, for a kind of fault at a key
abbrev pub faulty_file : List ℕ → List ℕ → List ℕ → Answer
faulty_file what kind key = record {
  status = Faulty;
  text = what ++ (codes " " ++ (kind ++ (codes " " ++ (key ++ codes "\n"))));
}

-- a board
abbrev pub faulty_board : List ℕ → List ℕ → Answer
faulty_board kind key = faulty_file (codes "board") kind key

-- a recipe
abbrev pub faulty_recipe : List ℕ → List ℕ → Answer
faulty_recipe kind key = faulty_file (codes "recipe") kind key

-- a script that is refused at a line, for a kind of fault
abbrev pub faulty_script : ℕ → List ℕ → Answer
faulty_script line kind = record {
  status = Faulty;
  text = codes "script "
      ++ (decimal line ++ (codes " " ++ (kind ++ codes "\n")));
}

-- a word or an input asks for what is not built yet
abbrev pub later : List ℕ → Answer
later what = record { status = Later; text = codes "later " ++ what ++ codes "\n" }

-- the input of this name could not be read
abbrev pub unread : List ℕ → Answer
unread name = record { status = Unread; text = codes "unread " ++ name ++ codes "\n" }

-- the input of this name passes a limit
abbrev pub long : List ℕ → Answer
long name = record { status = Long; text = codes "long " ++ name ++ codes "\n" }

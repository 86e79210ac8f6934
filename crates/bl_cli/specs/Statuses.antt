-- Exit statuses and the lines on the error output.
use Rattle.std.specs.Prelude.{ℕ, codes, decimal, List, [], ◌∷◌, ◌++◌}
use Rattle.bl_cli.specs.declared.status.Status.{Status}
use Rattle.bl_cli.specs.declared.status.Status.TheVariants.{Ok, JobNotCompleted, Usage, ReadFault, WriteFault, StoreFault, BadStore, NoMemory, InputTooLong, TornInput, JournalFull, NumbersUsedUp, UnknownLoad, NoRecords}

abbrev pub code_of : Status → ℕ
code_of Ok = 0
code_of JobNotCompleted = 1
code_of Usage = 2
code_of ReadFault = 3
code_of WriteFault = 4
code_of StoreFault = 5
code_of (BadStore place) = 6
code_of NoMemory = 7
code_of InputTooLong = 8
code_of TornInput = 9
code_of JournalFull = 10
code_of NumbersUsedUp = 11
code_of UnknownLoad = 12
code_of NoRecords = 13

-- what every line of the status begins with; of all but one it is the whole line
abbrev pub plain_line : Status → List ℕ
plain_line Ok = []
plain_line JobNotCompleted = []
plain_line Usage = codes "bl: usage: see help" ++ 10 ∷ []
plain_line ReadFault = codes "bl: read fault" ++ 10 ∷ []
plain_line WriteFault = codes "bl: write fault" ++ 10 ∷ []
plain_line StoreFault = codes "bl: store fault" ++ 10 ∷ []
plain_line (BadStore place) = codes "bl: bad store at "
plain_line NoMemory = codes "bl: no memory" ++ 10 ∷ []
plain_line InputTooLong = codes "bl: input too long" ++ 10 ∷ []
plain_line TornInput = codes "bl: torn input" ++ 10 ∷ []
plain_line JournalFull = codes "bl: journal full" ++ 10 ∷ []
plain_line NumbersUsedUp = codes "bl: no load number is left" ++ 10 ∷ []
plain_line UnknownLoad = codes "bl: unknown load" ++ 10 ∷ []
plain_line NoRecords = codes "bl: no records" ++ 10 ∷ []

abbrev pub place_behind : ℕ → List ℕ
place_behind place = decimal place ++ 10 ∷ []

-- the line of a status on the error output; the first two have none
abbrev pub line_of : Status → List ℕ
line_of Ok = []
line_of JobNotCompleted = []
line_of Usage = codes "bl: usage: see help" ++ 10 ∷ []
line_of ReadFault = codes "bl: read fault" ++ 10 ∷ []
line_of WriteFault = codes "bl: write fault" ++ 10 ∷ []
line_of StoreFault = codes "bl: store fault" ++ 10 ∷ []
line_of (BadStore place) = codes "bl: bad store at " ++ place_behind place
line_of NoMemory = codes "bl: no memory" ++ 10 ∷ []
line_of InputTooLong = codes "bl: input too long" ++ 10 ∷ []
line_of TornInput = codes "bl: torn input" ++ 10 ∷ []
line_of JournalFull = codes "bl: journal full" ++ 10 ∷ []
line_of NumbersUsedUp = codes "bl: no load number is left" ++ 10 ∷ []
line_of UnknownLoad = codes "bl: unknown load" ++ 10 ∷ []
line_of NoRecords = codes "bl: no records" ++ 10 ∷ []

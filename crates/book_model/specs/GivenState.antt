-- What the calls of a history give, whatever their answers.
use Rattle.std.specs.Prelude.{◌≡◌}
use Rattle.book_model.specs.Calls.{State, opening, feeding}
use Rattle.book_model.specs.History.{History, opened, fed, header_line, sheet_of}

-- the state after its opening and each feeding
unfoldable pub state_given : History → State
state_given (opened sheet line) = (opening sheet line).state
state_given (fed h line) = (feeding (state_given h) line).state

-- its opening was not refused
abbrev pub IsOpened : History → Type 0
IsOpened h = (opening (sheet_of h) (header_line h)).refusal ≡ 0

-- Lines as words, for contracts of private functions: no public contract names these. Assumes nothing.
use Rattle.std.specs.Prelude.{ℕ, true, false, List, [], ◌∷◌, ◌++◌, map, codes, decimal}
use Rattle.std.specs.List.{join_with_byte}
use Rattle.heal.specs.declared.Call.{Call}
use Rattle.heal.specs.declared.Call.TheVariants as call
use Rattle.heal.specs.declared.Answer.{Answer}
use Rattle.heal.specs.declared.Answer.TheVariants as answer
use Rattle.script.specs.declared.Line.{Line}
use Rattle.script.specs.declared.Line.TheVariants as line
use Rattle.script.specs.declared.Report.{Report}
use Rattle.script.specs.declared.Report.TheVariants as report
use Rattle.script.specs.declared.words.Keyword.{Keyword}
use Rattle.script.specs.declared.words.Keyword.TheVariants as word
use Rattle.script.specs.declared.words.Token.{Token}
use Rattle.script.specs.declared.words.Token.TheVariants.{Number, Asked, Word}

abbrev pub keyword_text : Keyword → List ℕ
keyword_text word.Spawn = codes "spawn"
keyword_text word.Exit = codes "exit"
keyword_text word.Wait = codes "wait"
keyword_text word.Kill = codes "kill"
keyword_text word.Open = codes "open"
keyword_text word.Close = codes "close"
keyword_text word.Read = codes "read"
keyword_text word.Write = codes "write"
keyword_text word.Remove = codes "remove"
keyword_text word.Take = codes "take"
keyword_text word.Leave = codes "leave"
keyword_text word.Say = codes "say"
keyword_text word.Hear = codes "hear"
keyword_text word.Key = codes "key"
keyword_text word.Round = codes "round"
keyword_text word.On = codes "on"
keyword_text word.Fall = codes "fall"
keyword_text word.Falls = codes "falls"
keyword_text word.New = codes "new"
keyword_text word.W = codes "w"
keyword_text word.R = codes "r"
keyword_text word.After = codes "after"
keyword_text word.Before = codes "before"
keyword_text word.Pid = codes "pid"
keyword_text word.Handle = codes "handle"
keyword_text word.Ended = codes "ended"
keyword_text word.Word = codes "word"
keyword_text word.No = codes "no"
keyword_text word.Done = codes "done"
keyword_text word.Screen = codes "screen"
keyword_text word.Begin = codes "begin"
keyword_text word.Stop = codes "stop"
keyword_text word.Busy = codes "busy"
keyword_text word.Gone = codes "gone"
keyword_text word.Line = codes "line"
keyword_text word.Gave = codes "gave"
keyword_text word.Up = codes "up"

abbrev pub spelt : Token → List ℕ
spelt (Number n) = decimal n
spelt (Asked n) = decimal n ++ 63 ∷ []
spelt (Word w) = keyword_text w

-- words have a blank between them
unfoldable pub spell : List Token → List ℕ
spell ts = join_with_byte 32 (map spelt ts)

-- what stands after the program's number
abbrev pub call_words : Call → List Token
call_words (call.Spawn n) = Word word.Spawn ∷ Number n ∷ []
call_words (call.Exit n) = Word word.Exit ∷ Number n ∷ []
call_words call.Wait = Word word.Wait ∷ []
call_words (call.Kill n) = Word word.Kill ∷ Number n ∷ []
call_words (call.Open n true) = Word word.Open ∷ Number n ∷ Word word.W ∷ []
call_words (call.Open n false) = Word word.Open ∷ Number n ∷ Word word.R ∷ []
call_words (call.Close n) = Word word.Close ∷ Number n ∷ []
call_words (call.Read h n) = Word word.Read ∷ Number h ∷ Number n ∷ []
call_words (call.Write h n x) = Word word.Write ∷ Number h ∷ Number n ∷ Number x ∷ []
call_words (call.Remove n) = Word word.Remove ∷ Number n ∷ []
call_words call.Take = Word word.Take ∷ []
call_words call.Leave = Word word.Leave ∷ []
call_words (call.Say x) = Word word.Say ∷ Number x ∷ []
call_words call.Hear = Word word.Hear ∷ []

abbrev pub line_words : Line → List Token
line_words (line.Ask p c) = Number p ∷ call_words c
line_words (line.Key n) = Word word.Key ∷ Number n ∷ []
line_words (line.Rounds n) = Word word.Round ∷ Number n ∷ []
line_words line.On = Word word.On ∷ []
line_words (line.Fall s n true) = Word word.Fall ∷ Number s ∷ Number n ∷ Word word.After ∷ []
line_words (line.Fall s n false) = Word word.Fall ∷ Number s ∷ Number n ∷ Word word.Before ∷ []
line_words (line.Falls s n) = Word word.Falls ∷ Number s ∷ Number n ∷ []
line_words line.New = Word word.New ∷ []

abbrev pub answer_words : Answer → List Token
answer_words answer.Done = Word word.Done ∷ []
answer_words (answer.No n) = Word word.No ∷ Number n ∷ []
answer_words (answer.Pid n) = Word word.Pid ∷ Number n ∷ []
answer_words (answer.Ended n code) = Word word.Ended ∷ Number n ∷ Number code ∷ []
answer_words (answer.Handle n) = Word word.Handle ∷ Number n ∷ []
answer_words (answer.Word x) = Word word.Word ∷ Number x ∷ []

abbrev pub report_words : Report → List Token
report_words (report.Told p a) = Number p ∷ answer_words a
report_words (report.Shown place x) = Word word.Screen ∷ Number place ∷ Number x ∷ []
report_words (report.Began p) = Word word.Begin ∷ Number p ∷ []
report_words (report.Stopped p) = Word word.Stop ∷ Number p ∷ []
report_words (report.Busy p) = Number p ∷ Word word.Busy ∷ []
report_words (report.Gone p) = Number p ∷ Word word.Gone ∷ []
report_words (report.Wrong n) = Word word.Line ∷ Asked n ∷ []
report_words report.GaveUp = Word word.On ∷ Word word.Gave ∷ Word word.Up ∷ []

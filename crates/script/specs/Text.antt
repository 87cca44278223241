-- What a line of a script and a line that is printed look like, without the newline. Assumes nothing.
use Rattle.std.specs.Prelude.{ℕ, ◌^◌, ◌<◌, ◌≤◌, cond, List, ◌++◌, codes, decimal}
use Rattle.heal.specs.declared.Call.{Call}
use Rattle.heal.specs.declared.Call.TheVariants.{Spawn, Exit, Wait, Kill, Open, Close, Read, Write, Remove, Take, Leave, Say, Hear}
use Rattle.heal.specs.declared.Answer.{Answer}
use Rattle.heal.specs.declared.Answer.TheVariants.{Done, No, Pid, Ended, Handle, Word}
use Rattle.script.specs.declared.Line.{Line}
use Rattle.script.specs.declared.Line.TheVariants.{Ask, Key, Rounds, On, Fall, Falls, New}
use Rattle.script.specs.declared.Report.{Report}
use Rattle.script.specs.declared.Report.TheVariants.{Told, Shown, Began, Stopped, Busy, Gone, Wrong, GaveUp}

unfoldable pub call_text : Call → List ℕ
call_text (Spawn n) = codes "spawn " ++ decimal n
call_text (Exit n) = codes "exit " ++ decimal n
call_text Wait = codes "wait"
call_text (Kill p) = codes "kill " ++ decimal p
call_text (Open n w) = codes "open " ++ decimal n ++ cond w (codes " w") (codes " r")
call_text (Close h) = codes "close " ++ decimal h
call_text (Read h a) = codes "read " ++ decimal h ++ codes " " ++ decimal a
call_text (Write h a x) = codes "write " ++ decimal h ++ codes " " ++ decimal a ++ codes " " ++ decimal x
call_text (Remove n) = codes "remove " ++ decimal n
call_text Take = codes "take"
call_text Leave = codes "leave"
call_text (Say x) = codes "say " ++ decimal x
call_text Hear = codes "hear"

unfoldable pub text_of : Line → List ℕ
text_of (Ask p call) = decimal p ++ codes " " ++ call_text call
text_of (Key n) = codes "key " ++ decimal n
text_of (Rounds n) = codes "round " ++ decimal n
text_of On = codes "on"
text_of (Fall s n after) = codes "fall " ++ decimal s ++ codes " " ++ decimal n ++ cond after (codes " after") (codes " before")
text_of (Falls s n) = codes "falls " ++ decimal s ++ codes " " ++ decimal n
text_of New = codes "new"

abbrev Word32 : ℕ → Type 0
Word32 n = n < 2 ^ 32

-- numbers of calls are below 2^32
abbrev pub ValidCall : Call → Type 0
ValidCall (Spawn n) = Word32 n
ValidCall (Exit n) = Word32 n
ValidCall Wait = Unit {0}
ValidCall (Kill p) = Word32 p
ValidCall (Open n w) = Word32 n
ValidCall (Close h) = Word32 h
ValidCall (Read h a) = Word32 h × Word32 a
ValidCall (Write h a x) = Word32 h × Word32 a × Word32 x
ValidCall (Remove n) = Word32 n
ValidCall Take = Unit {0}
ValidCall Leave = Unit {0}
ValidCall (Say x) = Word32 x
ValidCall Hear = Unit {0}

-- programs are 1 to 63, servers 0 to 2, and what a server falls over is counted from 1
abbrev pub Valid : Line → Type 0
Valid (Ask p call) = (1 ≤ p) × (p < 64) × ValidCall call
Valid (Key n) = Word32 n
Valid (Rounds n) = Word32 n
Valid On = Unit {0}
Valid (Fall s n after) = (s < 3) × (1 ≤ n) × Word32 n
Valid (Falls s n) = Word32 s × Word32 n
Valid New = Unit {0}

unfoldable pub answer_text : Answer → List ℕ
answer_text Done = codes "done"
answer_text (No n) = codes "no " ++ decimal n
answer_text (Pid p) = codes "pid " ++ decimal p
answer_text (Ended p code) = codes "ended " ++ decimal p ++ codes " " ++ decimal code
answer_text (Handle h) = codes "handle " ++ decimal h
answer_text (Word x) = codes "word " ++ decimal x

unfoldable pub report_text : Report → List ℕ
report_text (Told p answer) = decimal p ++ codes " " ++ answer_text answer
report_text (Shown place x) = codes "screen " ++ decimal place ++ codes " " ++ decimal x
report_text (Began p) = codes "begin " ++ decimal p
report_text (Stopped p) = codes "stop " ++ decimal p
report_text (Busy p) = decimal p ++ codes " busy"
report_text (Gone p) = decimal p ++ codes " gone"
report_text (Wrong n) = codes "line " ++ decimal n ++ codes "?"
report_text GaveUp = codes "on gave up"

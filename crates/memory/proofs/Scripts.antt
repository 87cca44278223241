-- What happens between turns.
use Rattle.std.proofs.Common.{◌≡◌, ℕ, zero, suc, ◌+◌, ◌<◌, ◌≤◌, Bool, true, false, cond, T, eqb, ltb, List, [], ◌∷◌, ◌++◌, length, set, Some, Ok, Err, Option, Result, is_some, sym, refl, ap, ◌∙◌, subst, subst₂, inl, inr, ⊎_elim, arith}
use Rattle.std.proofs.lemmas.Bool.{and_left, and_right, and_from, cond-true, cond-false, ltb-false, cases_Bool, false≢true}
use Rattle.std.specs.Result.{result_unwrap_or}
use Rattle.std.specs.ControlFlow.{continue_value}
use Rattle.std.specs.declared.ops.ControlFlow.{ControlFlow}
use Rattle.std.specs.declared.ops.ControlFlow.TheVariants.{Continue, Break}
use Rattle.heal.specs.declared.Call.{Call}
use Rattle.heal.specs.declared.Msg.TheVariants.{Asks}
use Rattle.heal.specs.Kernel.{Kern, Pending, Event, Asked, Typed, Between, rest, asking, typing, asks, server_of, with_box, with_screen, None', Some'}
use Rattle.heal.specs.Kernel as kernel
use Rattle.memory.specs.declared.program.Program.{Program}
use Rattle.memory.specs.declared.Full.{Full as Full'}
use Rattle.memory.specs.declared.machine.Machine.{Machine}
use Rattle.memory.specs.Memory.{kern_of, seen_of, program_at, waits_of, number_of, runs_of}
use Rattle.memory.specs.Programs.{pending_of, idle}
use Rattle.script.specs.declared.Line.{Line}
use Rattle.script.specs.declared.Line.TheVariants as line
use Rattle.script.specs.declared.lines.WrongLine.{WrongLine}
use Rattle.memory.specs.declared.Note.{Note}
use Rattle.memory.specs.declared.Note.TheVariants as note
use Rattle.memory.specs.Notes.{logged, added}
use Rattle.memory.specs.Beside.{Aside, BetweenTurns, Noted, Unnoted}
use Rattle.memory.specs.Lines.{ask_kern, ask_note, goes, Refused, Followed, Heeded}
use Rattle.script.specs.Scripts.{Reads}
use Rattle.memory.proofs.Arrays.{waits_set, number_set, runs_kept}
use Rattle.memory.proofs.Kernels.{with_programs}

pub between_then : {k l m : Kern} {es fs gs : List Event} → Between k es l fs → Between l fs m gs → Between k es m gs
between_then (rest k es) b = b
between_then (asking p c lt run idle below a) b = asking p c lt run idle below (between_then a b)
between_then (typing x fits a) b = typing x fits (between_then a b)

pub between_same : (k k' : Kern) (es es' : List Event) → k' ≡ k → es' ≡ es → Between k es k' es'
between_same k k' es es' p q = subst₂ (λ l fs. Between k es l fs) (sym p) (sym q) (rest k es)

pub asked_once : (k k' : Kern) (es es' : List Event) (p : ℕ) (c : Call) → p < 64 → k.runs p ≡ true → k.pending p ≡ None' → k.number p < 18446744073709551615 → k' ≡ asks p c k → es' ≡ Asked p c ∷ es → Between k es k' es'
asked_once k k' es es' p c lt run idle below e f = asking p c lt (subst T (sym run) tt) idle below (between_same (asks p c k) k' (Asked p c ∷ es) es' e f)

pub typed_once : (k k' : Kern) (es es' : List Event) (x : ℕ) → x < 18446744073709551616 → k' ≡ with_screen k.screen (k.keys ++ (x ∷ [])) k → es' ≡ Typed x ∷ es → Between k es k' es'
typed_once k k' es es' x fits e f = typing x fits (between_same (with_screen k.screen (k.keys ++ (x ∷ [])) k) k' (Typed x ∷ es) es' e f)

-- a call that a program has made, with the message that tells of it
pub asked_is : (m : Machine) (i s : ℕ) (c : Call) (q : Program) → i < length m.programs → s ≡ server_of c → q.runs ≡ (program_at m.programs i).runs → q.pending ≡ Some record { number = number_of m.programs i; call = c } → q.number ≡ number_of m.programs i + 1 →
    with_box (kernel.set s ((kern_of m).box s ++ (Asks i (number_of m.programs i) c ∷ [])) (kern_of m).box) (with_programs (set m.programs i q) (kern_of m)) ≡ asks i c (kern_of m)
asked_is m i s c q l server r w n =
    λ d.
    record {
      at = m.at;
      box = kernel.set (server d) ((kern_of m).box (server d) ++ (Asks i (number_of m.programs i) c ∷ [])) (kern_of m).box;
      cell = (kern_of m).cell;
      runs = runs_kept m.programs i q l r d;
      pending = (waits_set m.programs i q l ∙ ap (λ v j. cond (eqb j i) (pending_of v) (waits_of m.programs j)) w) d;
      number = (number_set m.programs i q l ∙ ap (λ x j. cond (eqb j i) x (number_of m.programs j)) n) d;
      screen = (kern_of m).screen;
      keys = (kern_of m).keys;
      left = m.left;
      fell = m.fell;
    }

-- programs past the array don't run
pub runs_past : (ps : List Program) (p : ℕ) → length ps ≤ p → runs_of ps p ≡ false
unfolding runs_of
runs_past [] p h = refl
runs_past (q ∷ ps) zero h = absurd (omega arith)
runs_past (q ∷ ps) (suc p) h = runs_past ps p (omega arith)

pub unnoted_seen : (m m' : Machine) → Unnoted m m' → seen_of m' ≡ seen_of m
unnoted_seen m m' u = λ d. logged (u.0 d) (u.1 d)

pub refused_between : (m m' : Machine) → Refused m m' → BetweenTurns m m'
refused_between m m' h = between_same _ _ _ _ h.kernel (unnoted_seen m m' h.noted)

-- a note that is no event, if there was room for it
pub noted_between : (n : Note) (m m' : Machine) (b : Bool) → ((es : List Event) → added n es ≡ es) → kern_of m' ≡ kern_of m → seen_of m' ≡ cond b (added n (seen_of m)) (seen_of m) → BetweenTurns m m'
noted_between n m m' true quiet k e = between_same (kern_of m) (kern_of m') (seen_of m) (seen_of m') k (e ∙ quiet (seen_of m))
noted_between n m m' false quiet k e = between_same (kern_of m) (kern_of m') (seen_of m) (seen_of m') k e

-- a program that can't ask now
pub gone_note : (p : ℕ) (c : Call) (k : Kern) → k.runs p ≡ false → ask_note p c k ≡ note.Gone p
gone_note p c k e = cond-false _ _ _ e

pub busy_note : (p : ℕ) (c : Call) (k : Kern) → k.runs p ≡ true → idle (k.pending p) ≡ false → ask_note p c k ≡ note.Busy p
busy_note p c k e f = cond-true _ _ _ e ∙ cond-false _ _ _ f

pub asked_note : (p : ℕ) (c : Call) (k : Kern) → k.runs p ≡ true → k.pending p ≡ None' → ask_note p c k ≡ note.Asked p c
asked_note p c k e f = cond-true _ _ _ e ∙ cond-true _ _ _ (ap idle f)

pub gone_kern : (p : ℕ) (c : Call) (k : Kern) → k.runs p ≡ false → ask_kern p c k ≡ k
gone_kern p c k e = cond-false _ _ _ (and_left _ _ e)

pub busy_kern : (p : ℕ) (c : Call) (k : Kern) → idle (k.pending p) ≡ false → ask_kern p c k ≡ k
busy_kern p c k e = cond-false _ _ _ (and_right _ _ e)

pub asked_kern : (p : ℕ) (c : Call) (k : Kern) → k.runs p ≡ true → k.pending p ≡ None' → ask_kern p c k ≡ asks p c k
asked_kern p c k e f = cond-true _ _ _ (and_from _ _ e (ap idle f))

-- what `note_if_room` leaves, as a line that asks for nothing
pub aside_follows : (p : ℕ) (c : Call) (n : Note) (m : Machine) (r : Bool) (m' : Machine) → ask_note p c (kern_of m) ≡ n → ask_kern p c (kern_of m) ≡ kern_of m → kern_of m' ≡ kern_of m →
    r ≡ ltb (m.noted + 4096) m.room → (r ≡ true → Noted n m m' × Aside m m') → (r ≡ false → Refused m m') → Followed (line.Ask p c) m r m'
aside_follows p c n m r m' en ek k t done refused =
    ⊎_elim
    (λ (e : r ≡ true).
    let d = done e in
    inl record { kernel = k ∙ sym ek; noted = subst (λ x. Noted x m m') (sym en) d.0; plan = d.1.0; rests = d.1.3; settles = d.1.4; is = d.1.5; goes_on = e })
    (λ (e : r ≡ false). inr (inl (ltb-false _ _ (sym t ∙ e)), e, refused e))
    (cases_Bool r)

pub idle_none : (w : Pending) → idle w ≡ true → w ≡ None'
idle_none None' e = refl
idle_none (Some' n c) e = absurd (false≢true e)

pub T_true : (r : Bool) → T r → r ≡ true
T_true true t = refl
T_true false t = absurd t

pub heeded_as : (n : Option (Result Line WrongLine)) (m : Machine) (r r' : Bool) (m' : Machine) → r ≡ r' → Heeded n m r m' → Heeded n m r' m'
heeded_as n m r r' m' e h = subst (λ b. Heeded n m b m') e h

-- what is read is the next line, so the script comes to its end
pub reads_on : (n : Result Line WrongLine) (text : List ℕ) (at number at' number' : ℕ) → Reads text at number (Some n) at' number' → (at < at') × (at' ≤ length text)
reads_on (Err wrong) text at number at' number' r = (r.0.1.0.more, r.0.1.0.within)
reads_on (Ok l) text at number at' number' r = (r.0.more, r.0.within)

-- what is left of what a line hands back, once a want of room breaks off too
pub goes_is : (r : Result (ControlFlow (Unit {0}) (Unit {0})) Full') → goes r ≡ is_some (continue_value (result_unwrap_or r (Break tt)))
goes_is (Ok (Continue x)) = refl
goes_is (Ok (Break b)) = refl
goes_is (Err e) = refl

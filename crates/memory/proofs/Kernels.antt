-- What a write to an array does to the kernel.
use Rattle.std.proofs.Common.{◌≡◌, ℕ, ◌+◌, ◌<◌, ◌≤◌, true, false, cond, ◌&&◌, eqb, List, [], ◌∷◌, ◌++◌, length, get_or, set, None, sym, ap, ◌∙◌, subst}
use Rattle.std.proofs.lemmas.List.{length-take-le}
use Rattle.std.proofs.lemmas.Bool.{cond-true, cond-false, eq-eqb, ne_eqb, lt-ltb, le-ltb}
use Rattle.heal.specs.declared.Msg.{Msg}
use Rattle.heal.specs.Kernel.{Kern, with_cell, with_runs, with_screen, with_box, kept, begun, stopped, answered, showed, taken, has_room, is_call, cells_of, tail}
use Rattle.heal.specs.Kernel as kernel
use Rattle.memory.specs.declared.program.Program.{Program}
use Rattle.memory.specs.declared.machine.Machine.{Machine}
use Rattle.memory.specs.Memory.{kern_of, words_of, base_of, box_of, cell_of, program_at, runs_of, waits_of, number_of}
use Rattle.memory.specs.Programs.{pending_of}
use Rattle.memory.proofs.Arrays.{cell_put, runs_set, waits_set, runs_kept, waits_kept, number_kept, box_read, box_set, set_again}

pub kept_is : (k : Kern) (xs : List ℕ) (c x b : ℕ) → k.cell ≡ cell_of xs → k.at < 3 → c < cells_of k.at → b ≡ base_of k.at → b + c < length xs → with_cell (cell_of (set xs (b + c) x)) k ≡ kept c x k
kept_is k xs c x b w la lc at_b lt =
    ap (λ n. with_cell (cell_of (set xs (n + c) x)) k) at_b
    ∙ ap (λ f. with_cell f k) (cell_put xs k.at c x la lc (subst (λ n. n + c < length xs) at_b lt) ∙ ap (λ f s j. cond (eqb s k.at && eqb j c) x (f s j)) (sym w))

-- the kernel with these programs
abbrev pub with_programs : List Program → Kern → Kern
with_programs ps k =
    record { at = k.at; box = k.box; cell = k.cell; runs = runs_of ps; pending = waits_of ps; number = number_of ps; screen = k.screen; keys = k.keys; left = k.left; fell = k.fell }

pub begun_is : (m : Machine) (i : ℕ) (q : Program) → i < length m.programs → q.runs ≡ true → q.pending ≡ (program_at m.programs i).pending → q.number ≡ (program_at m.programs i).number → with_programs (set m.programs i q) (kern_of m) ≡ begun i (kern_of m)
begun_is m i q l r w n =
    λ d.
    record {
      at = m.at;
      box = (kern_of m).box;
      cell = (kern_of m).cell;
      runs = (runs_set m.programs i q l ∙ ap (λ b j. cond (eqb j i) b (runs_of m.programs j)) r) d;
      pending = waits_kept m.programs i q l w d;
      number = number_kept m.programs i q l n d;
      screen = (kern_of m).screen;
      keys = (kern_of m).keys;
      left = m.left;
      fell = m.fell;
    }

pub begun_again : (k : Kern) (i : ℕ) → k.runs i ≡ true → k ≡ begun i k
begun_again k i e = ap (λ f. with_runs f k.pending k) (set_again k.runs i true e)

pub stopped_is : (m : Machine) (i : ℕ) (q : Program) → i < length m.programs → q.runs ≡ false → q.pending ≡ None → q.number ≡ (program_at m.programs i).number → with_programs (set m.programs i q) (kern_of m) ≡ stopped i (kern_of m)
stopped_is m i q l r w n =
    λ d.
    record {
      at = m.at;
      box = (kern_of m).box;
      cell = (kern_of m).cell;
      runs = (runs_set m.programs i q l ∙ ap (λ b j. cond (eqb j i) b (runs_of m.programs j)) r) d;
      pending = (waits_set m.programs i q l ∙ ap (λ v j. cond (eqb j i) (pending_of v) (waits_of m.programs j)) w) d;
      number = number_kept m.programs i q l n d;
      screen = (kern_of m).screen;
      keys = (kern_of m).keys;
      left = m.left;
      fell = m.fell;
    }

pub answered_is : (m : Machine) (i number : ℕ) (q : Program) → i < length m.programs → is_call number ((kern_of m).pending i) ≡ true → q.runs ≡ (program_at m.programs i).runs → q.pending ≡ None → q.number ≡ (program_at m.programs i).number → with_programs (set m.programs i q) (kern_of m) ≡ answered i number (kern_of m)
answered_is m i number q l is r w n =
    (λ d.
    record {
      at = m.at;
      box = (kern_of m).box;
      cell = (kern_of m).cell;
      runs = runs_kept m.programs i q l r d;
      pending = (waits_set m.programs i q l ∙ ap (λ v j. cond (eqb j i) (pending_of v) (waits_of m.programs j)) w) d;
      number = number_kept m.programs i q l n d;
      screen = (kern_of m).screen;
      keys = (kern_of m).keys;
      left = m.left;
      fell = m.fell;
    })
    ∙ sym (cond-true _ _ _ is)

pub answered_none : (k : Kern) (i number : ℕ) → is_call number (k.pending i) ≡ false → k ≡ answered i number k
answered_none k i number is = sym (cond-false _ _ _ is)

pub next_place : (m : Machine) (place : ℕ) → place ≡ m.screen.len → eqb place (length (kern_of m).screen) ≡ true
next_place m place e = eq-eqb place (length (words_of m.screen)) (e ∙ sym (length-take-le m.screen.len m.screen.words.now m.screen.within))

pub no_place : (m : Machine) (place : ℕ) → (place ≡ m.screen.len → ⊥) → eqb place (length (kern_of m).screen) ≡ false
no_place m place ne = ne_eqb place (length (words_of m.screen)) (λ e. ne (e ∙ length-take-le m.screen.len m.screen.words.now m.screen.within))

pub showed_is : (k : Kern) (place x : ℕ) (screen : List ℕ) → eqb place (length k.screen) ≡ true → screen ≡ k.screen ++ (x ∷ []) → with_screen screen k.keys k ≡ showed place x k
showed_is k place x screen is e = ap (λ s. with_screen s k.keys k) e ∙ sym (cond-true _ _ _ is)

pub showed_none : (k : Kern) (place x : ℕ) → eqb place (length k.screen) ≡ false → k ≡ showed place x k
showed_none k place x is = sym (cond-false _ _ _ is)

-- a message is put into a box, or the first is taken
pub put_is : (m : Machine) (s : ℕ) (x : Msg) (old new : List Msg) → s < length m.mailboxes → new ≡ get_or m.mailboxes s old ++ (x ∷ []) →
    with_box (box_of (set m.mailboxes s new)) (kern_of m) ≡ with_box (kernel.set s ((kern_of m).box s ++ (x ∷ [])) (kern_of m).box) (kern_of m)
put_is m s x old new l e =
    ap (λ f. with_box f (kern_of m)) (box_set m.mailboxes s new l) ∙ ap (λ box. with_box (kernel.set s box (kern_of m).box) (kern_of m)) (e ∙ ap (λ (box : List Msg). box ++ (x ∷ [])) (box_read m.mailboxes s old l))

pub taken_is : (m : Machine) (old new : List Msg) → m.at < length m.mailboxes → new ≡ tail (get_or m.mailboxes m.at old) → with_box (box_of (set m.mailboxes m.at new)) (kern_of m) ≡ taken (kern_of m)
taken_is m old new l e =
    ap (λ f. with_box f (kern_of m)) (box_set m.mailboxes m.at new l) ∙ ap (λ box. with_box (kernel.set m.at box (kern_of m).box) (kern_of m)) (e ∙ ap tail (box_read m.mailboxes m.at old l))

pub room_is : (k : Kern) (to : ℕ) → length (k.box to) < 256 → has_room to k ≡ true
room_is k to h = lt-ltb (length (k.box to)) 256 h

pub room_not : (k : Kern) (to : ℕ) → 256 ≤ length (k.box to) → has_room to k ≡ false
room_not k to h = le-ltb (length (k.box to)) 256 h

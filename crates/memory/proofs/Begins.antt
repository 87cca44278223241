-- A machine as it starts.
use Rattle.std.proofs.Common.{◌≡◌, ℕ, zero, suc, ◌+◌, Bool, true, false, cond, T, List, [], ◌∷◌, get_or, set, replicate, None, refl, ap, ◌∙◌, ⊎_elim, get_or-set_other}
use Rattle.std.proofs.lemmas.Bool.{cases_eq}
use Rattle.heal.specs.declared.Msg.{Msg}
use Rattle.heal.specs.Kernel.{None'}
use Rattle.memory.specs.declared.program.Program.{Program}
use Rattle.memory.specs.Memory.{base_of, inside, box_of, cell_of, no_program, program_at, runs_of, waits_of, number_of}
use Rattle.memory.specs.Programs.{pending_of}

same : {A : Type 0} (a : A) (n i : ℕ) → get_or (replicate n a) i a ≡ a
same a zero i = refl
same a (suc n) zero = refl
same a (suc n) (suc i) = same a n i

pub no_mail : (a b c : List Msg) → a ≡ [] → b ≡ [] → c ≡ [] → (s : ℕ) → box_of (a ∷ b ∷ c ∷ []) s ≡ []
unfolding box_of
no_mail a b c ea eb ec zero = ea
no_mail a b c ea eb ec (suc zero) = eb
no_mail a b c ea eb ec (suc (suc zero)) = ec
no_mail a b c ea eb ec (suc (suc (suc s))) = refl

pub noughts : (xs : List ℕ) → ((i : ℕ) → get_or xs i 0 ≡ 0) → (s c : ℕ) → cell_of xs s c ≡ 0
unfolding cell_of
noughts xs h s c = ap (λ x. cond (inside s c) x 0) (h (base_of s + c)) ∙ both (inside s c)
  where
    both : (b : Bool) → ◌≡◌ {A = ℕ} (cond b 0 0) 0
    both true = refl
    both false = refl

-- program 1 runs, and no other
abbrev pub first_programs : List Program
first_programs = set (replicate 64 no_program) 1 record { runs = true; pending = None; number = 0 }

one_or_none : (p : ℕ) → (p ≡ 1 → ⊥) → program_at first_programs p ≡ no_program
one_or_none p ne = get_or-set_other (replicate 64 no_program) 1 p _ no_program ne ∙ same no_program 64 p

pub one_runs : T (runs_of first_programs 1)
unfolding runs_of
one_runs = tt

pub others_rest : (p : ℕ) → (p ≡ 1 → ⊥) → runs_of first_programs p ≡ false
unfolding runs_of
others_rest p ne = ap (λ q. q.runs) (one_or_none p ne)

pub none_waits : (p : ℕ) → waits_of first_programs p ≡ None'
unfolding waits_of
none_waits p = ⊎_elim (λ e. ap (λ j. pending_of (program_at first_programs j).pending) e) (λ ne. ap (λ q. pending_of q.pending) (one_or_none p ne)) (cases_eq p 1)

pub none_counted : (p : ℕ) → number_of first_programs p ≡ 0
unfolding number_of
none_counted p = ⊎_elim (λ e. ap (λ j. (program_at first_programs j).number) e) (λ ne. ap (λ q. q.number) (one_or_none p ne)) (cases_eq p 1)

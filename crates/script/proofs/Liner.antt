-- Lines of a text. Assumes nothing.
use Rattle.std.proofs.Common.{◌≡◌, ℕ, ◌+◌, ◌-◌, ◌≤◌, List, ◌∷◌, ◌++◌, length, take, drop, Option, Some, None, Result, MatchOption, sym, refl, ap, ◌∙◌, subst, inl, inr, ⊎_elim, arith, length-drop}
use Rattle.std.specs.Option.{ok_or}
use Rattle.std.proofs.lemmas.List.{drop-drop, take_rest}
use Rattle.script.specs.declared.Line.{Line}
use Rattle.script.specs.declared.lines.WrongLine.{WrongLine}
use Rattle.script.specs.Text.{text_of, Valid}
use Rattle.script.specs.Scripts.{LineAt, Reads}

-- a line of what is left is a line of the text
further : (s : List ℕ) (at : ℕ) (line : List ℕ) (past : ℕ) → at ≤ length s → LineAt (drop at s) 0 line past → LineAt s at line (at + past)
further s at line past fits h =
    let long = length-drop at s in
    record {
      more = omega (arith, h.more);
      within = omega (arith, h.within);
      whole = h.whole;
      parts = ⊎_elim (λ e. inl (e ∙ ap (λ x. line ++ 10 ∷ x) (drop-drop past at s))) (λ e. inr (e.0, omega (arith, e.1))) h.parts;
    }

-- the line is read
module _ (s line : List ℕ) (at number taken : ℕ) (wrong : WrongLine) (fits : at ≤ length s) (h : LineAt (take (length s - at) (drop at s)) 0 line taken) (counted : wrong.number ≡ number + 1) where
  here : LineAt s at line (at + taken)
  here = further s at line taken fits (subst (λ x. LineAt x 0 line taken) (take_rest s at) h)

  reads : (r : Option Line) → MatchOption r ((l : Line) → Valid l → line ≡ text_of l → ⊥) (λ l. Valid l × (line ≡ text_of l)) → Reads s at number (Some (ok_or r wrong)) (at + taken) (number + 1)
  reads (Some l) is = (subst (λ x. LineAt s at x (at + taken)) is.1 here, refl, is.0)
  reads None none = ((line, (here, none)), refl, counted)

  pub line_read : (r : Option Line) (read : Result Line WrongLine) → read ≡ ok_or r wrong → MatchOption r ((l : Line) → Valid l → line ≡ text_of l → ⊥) (λ l. Valid l × (line ≡ text_of l)) → Reads s at number (Some read) (at + taken) (number + 1)
  line_read r read e is = subst (λ x. Reads s at number (Some x) (at + taken) (number + 1)) (sym e) (reads r is)

use Rattle.std.proofs.Common.{ℕ, not, T, List, Err, refl, inl, inr, arith}
use Rattle.heal.specs.declared.Call.{Call}
use Rattle.heal.specs.declared.decision.Refusal.TheVariants.{NotBuilt}
use Rattle.heal.specs.declared.decision.NotDone.TheVariants.{Refused}
use Rattle.heal.specs.Kernel.{Kern, Event}
use Rattle.heal.specs.Promise.{can}
use Rattle.heal.specs.Journal.{viewed}
use Rattle.heal.specs.Deciding.{AtSweep, Decides}
use Rattle.heal.proofs.Steps.{after_none}
use Rattle.heal.proofs.Ending.{decided_as, refused}
use Rattle.heal.proofs.Deciders.{not_built_lem}
use Rattle.heal.proofs.Serving.{is_not_built}
use Rattle.heal.proofs.slots.decide.Goals as goal

pub returns-in-Close : goal.returns-in-Close
returns-in-Close g c = decided_as _ c.close.ensures c.in-Close.is (omega arith)

pub returns-in-Read : goal.returns-in-Read
returns-in-Read g c = decided_as _ c.read.ensures c.in-Read.is (omega arith)

pub returns-in-Write : goal.returns-in-Write
returns-in-Write g c = decided_as _ c.write.ensures c.in-Write.is (omega arith)

pub returns-in-Remove : goal.returns-in-Remove
returns-in-Remove g c = decided_as _ c.remove.ensures c.in-Remove.is (omega arith)

pub returns-in-Take : goal.returns-in-Take
returns-in-Take g c = decided_as _ c.take.ensures c.in-Take.is (omega arith)

pub returns-in-Leave : goal.returns-in-Leave
returns-in-Leave g c = decided_as _ c.leave.ensures c.in-Leave.is (omega arith)

pub returns-in-Say : goal.returns-in-Say
returns-in-Say g c = decided_as _ c.say.ensures c.in-Say.is (omega arith)

pub returns-in-Hear : goal.returns-in-Hear
returns-in-Hear g c = decided_as _ c.hear.ensures c.in-Hear.is (omega arith)

unbuilt : {p : ℕ} {c : Call} {k : Kern} {es : List Event} → AtSweep 10 p c k es → T (not (can c)) → Decides 10 p c k es (Err (Refused NotBuilt)) k es
unbuilt {p = p} {c = c} {k = k} {es = es} r b = refused p c NotBuilt (after_none r.able) refl (r.stand, not_built_lem p c (viewed k) es r.stand b) (omega arith)

pub returns-in-Spawn : goal.returns-in-Spawn
returns-in-Spawn g c = unbuilt c.requires (is_not_built c.args.call (inl (_, c.in-Spawn.is)))

pub returns-in-Exit : goal.returns-in-Exit
returns-in-Exit g c = unbuilt c.requires (is_not_built c.args.call (inr (inl (_, c.in-Exit.is))))

pub returns-in-Wait : goal.returns-in-Wait
returns-in-Wait g c = unbuilt c.requires (is_not_built c.args.call (inr (inr (inl c.in-Wait.is))))

pub returns-in-Kill : goal.returns-in-Kill
returns-in-Kill g c = unbuilt c.requires (is_not_built c.args.call (inr (inr (inr (_, c.in-Kill.is)))))

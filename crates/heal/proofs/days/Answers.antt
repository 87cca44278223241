-- Each need follows from what stood at the loop's start, turn by turn; the lemmas are of proofs/Rounds.antt.
use Rattle.std.proofs.Common.{true}
use Rattle.heal.specs.Invariant.{nothing}
use Rattle.heal.proofs.Rounds.{one, two, three, few0, few1, few2, Good, good_start, good_loop, good_between, seated, Ended, ended, ended_ok, ended_err, round_needs, again_round, again_not}
use Rattle.heal.proofs.days.Given.{Over}
use Rattle.heal.proofs.days.Goals as goal
use Rattle.heal.proofs.days.Goals.{in-Err, in_default, in-Err-turn, in_default-turn, in-Err-turn-2, in_default-turn-2, else-whole-via-then-whole+else-not-round, else-whole-via-else-whole, Joined-turn, Joined-turn-2, Joined-turn-3}

-- what stands when each of the three has had its turn
first : (g : Over) (c : Joined-turn g) → Good one c.match-turn.whole (g.W.Desk.kern c.match-turn.w) (g.W.Desk.seen c.match-turn.w)
first g c =
    let K = g.W.Desk.kern in
    let S = g.W.Desk.seen in
    let s = seated nothing few0 true 0 (good_loop (K c.loop-t.w) (S c.loop-t.w) c.loop-t.invariant) c.between.ensures (c.if-not-seat.ensures.0 tt) c.if-not-seat.ensures.1 in
    let e : Ended (K c.seat.new.self) (S c.seat.new.self) (K c.match-turn.w) (S c.match-turn.w) true c.match-turn.whole =
    elim c.match-turn.branch [
      | in-Err w ↦ ended_err K S c.turn.new.k w.renew.new.self c.match-turn.w w.in-Err.ensures w.renew.ensures w.w-is w.whole-is
      | in_default w ↦ ended_ok K S c.turn.new.k c.match-turn.w w.in_default.ensures w.w-is w.whole-is
    ] in
    ended nothing 0 s e

second : (g : Over) (c : Joined-turn-2 g) → Good one c.match-turn.whole (g.W.Desk.kern c.match-turn.w) (g.W.Desk.seen c.match-turn.w) → Good two c.match-turn-2.whole (g.W.Desk.kern c.match-turn-2.w) (g.W.Desk.seen c.match-turn-2.w)
second g c h =
    let K = g.W.Desk.kern in
    let S = g.W.Desk.seen in
    let s = seated one few1 c.match-turn.whole 1 h c.between-in-loop-t.ensures (c.if-not-seat-2.ensures.0 tt) c.if-not-seat-2.ensures.1 in
    let e : Ended (K c.seat-in-loop-t.new.self) (S c.seat-in-loop-t.new.self) (K c.match-turn-2.w) (S c.match-turn-2.w) c.match-turn.whole c.match-turn-2.whole =
    elim c.match-turn-2.branch [
      | in-Err-turn w ↦ ended_err K S c.turn-in-loop-t.new.k w.renew-in-Err-turn.new.self c.match-turn-2.w w.in-Err-turn.ensures w.renew-in-Err-turn.ensures w.w-is w.whole-is
      | in_default-turn w ↦ ended_ok K S c.turn-in-loop-t.new.k c.match-turn-2.w w.in_default-turn.ensures w.w-is w.whole-is
    ] in
    ended one 1 s e

third : (g : Over) (c : Joined-turn-3 g) → Good two c.match-turn-2.whole (g.W.Desk.kern c.match-turn-2.w) (g.W.Desk.seen c.match-turn-2.w) → Good three c.match-turn-3.whole (g.W.Desk.kern c.match-turn-3.w) (g.W.Desk.seen c.match-turn-3.w)
third g c h =
    let K = g.W.Desk.kern in
    let S = g.W.Desk.seen in
    let s = seated two few2 c.match-turn-2.whole 2 h c.between-in-loop-t-2.ensures (c.if-not-seat-3.ensures.0 tt) c.if-not-seat-3.ensures.1 in
    let e : Ended (K c.seat-in-loop-t-2.new.self) (S c.seat-in-loop-t-2.new.self) (K c.match-turn-3.w) (S c.match-turn-3.w) c.match-turn-2.whole c.match-turn-3.whole =
    elim c.match-turn-3.branch [
      | in-Err-turn-2 w ↦ ended_err K S c.turn-in-loop-t-2.new.k w.renew-in-Err-turn-2.new.self c.match-turn-3.w w.in-Err-turn-2.ensures w.renew-in-Err-turn-2.ensures w.w-is w.whole-is
      | in_default-turn-2 w ↦ ended_ok K S c.turn-in-loop-t-2.new.k c.match-turn-3.w w.in_default-turn-2.ensures w.w-is w.whole-is
    ] in
    ended two 2 s e

pub loop-t-init : goal.loop-t-init
loop-t-init g c = good_start (g.W.Desk.kern c.args.w.now) (g.W.Desk.seen c.args.w.now) c.requires.starts c.requires.unseen

pub seat-requires : goal.seat-requires
seat-requires g c = (good_between nothing few0 true (good_loop (g.W.Desk.kern c.loop-t.w) (g.W.Desk.seen c.loop-t.w) c.loop-t.invariant) c.between.ensures).up

pub turn-requires : goal.turn-requires
turn-requires g c =
    let s = seated nothing few0 true 0 (good_loop (g.W.Desk.kern c.loop-t.w) (g.W.Desk.seen c.loop-t.w) c.loop-t.invariant) c.between.ensures (c.if-not-seat.ensures.0 tt) c.if-not-seat.ensures.1 in
    record { some = s.many; stands = s.good.up; sound = s.good.sound; inv = s.good.inv }

pub seat-requires-in-loop-t : goal.seat-requires-in-loop-t
seat-requires-in-loop-t g c =
    let h = first g (goal.at.seat-requires-in-loop-t g c).Joined-turn in
    (good_between one few1 c.match-turn.whole h c.between-in-loop-t.ensures).up

pub turn-requires-in-loop-t : goal.turn-requires-in-loop-t
turn-requires-in-loop-t g c =
    let h = first g (goal.at.turn-requires-in-loop-t g c).Joined-turn in
    let s = seated one few1 c.match-turn.whole 1 h c.between-in-loop-t.ensures (c.if-not-seat-2.ensures.0 tt) c.if-not-seat-2.ensures.1 in
    record { some = s.many; stands = s.good.up; sound = s.good.sound; inv = s.good.inv }

pub seat-requires-in-loop-t-2 : goal.seat-requires-in-loop-t-2
seat-requires-in-loop-t-2 g c =
    let at = goal.at.seat-requires-in-loop-t-2 g c in
    let h = second g at.Joined-turn-2 (first g at.Joined-turn) in
    (good_between two few2 c.match-turn-2.whole h c.between-in-loop-t-2.ensures).up

pub turn-requires-in-loop-t-2 : goal.turn-requires-in-loop-t-2
turn-requires-in-loop-t-2 g c =
    let at = goal.at.turn-requires-in-loop-t-2 g c in
    let h = second g at.Joined-turn-2 (first g at.Joined-turn) in
    let s = seated two few2 c.match-turn-2.whole 2 h c.between-in-loop-t-2.ensures (c.if-not-seat-3.ensures.0 tt) c.if-not-seat-3.ensures.1 in
    record { some = s.many; stands = s.good.up; sound = s.good.sound; inv = s.good.inv }

pub round-requires : goal.round-requires
round-requires g c =
    let at = goal.at.round-requires g c in
    round_needs (third g at.Joined-turn-3 (second g at.Joined-turn-2 (first g at.Joined-turn))) c.if-whole.true

pub loop-t-preserved : goal.loop-t-preserved
loop-t-preserved g c =
    let K = g.W.Desk.kern in
    let S = g.W.Desk.seen in
    let at = goal.at.loop-t-preserved g c in
    let h = third g at.Joined-turn-3 (second g at.Joined-turn-2 (first g at.Joined-turn)) in
    elim c.else-whole.branch [
      | else-whole-via-then-whole+else-not-round w ↦ again_round K S c.match-turn-3.w w.round.new.self c.else-whole.w h w.if-whole.true w.if-not-round.ensures.0 (w.if-not-round.ensures.1 tt) w.w-is
      | else-whole-via-else-whole w ↦ again_not K S c.match-turn-3.w c.else-whole.w h w.w-is
    ]

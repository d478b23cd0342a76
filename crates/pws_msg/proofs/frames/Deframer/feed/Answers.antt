use Rattle.std.proofs.Common.{◌≡◌, ℕ, subst, refl, sym, Option}
use Rattle.pws_msg.specs.Pieces.{CutsAt}
use Rattle.pws_msg.specs.Deframing.{Deframing, HasRead}
use Rattle.pws_msg.proofs.Streams.{fed_whole, fed_broken}
use Rattle.pws_msg.proofs.frames.Deframer.feed.Goals as goal

pub returns-in-Some-broken-clause-read : goal.returns-in-Some-broken-clause-read
returns-in-Some-broken-clause-read c = λ bytes packets h.
    let P : Option ℕ → Type 0 = λ o. CutsAt o c.self.inside.rest c.args.piece.now c.in_ok-cut.cut.whole c.cut.new.self in
    let Q : Deframing → Type 0 = λ d. HasRead d bytes packets in
    (fed_broken _ bytes packets c.args.piece.now c.in_ok-cut.cut.whole c.cut.new.self c.in-Some-broken.end c.saturating_sub-at.result (subst Q (sym c.self.view_is) h) c.in-None.is (subst P c.in-Some-broken.is c.in_ok-cut.ensures.cut) c.saturating_sub-at.ensures, refl, refl)

pub returns-in-None-broken-clause-read : goal.returns-in-None-broken-clause-read
returns-in-None-broken-clause-read c = λ bytes packets h.
    let P : Option ℕ → Type 0 = λ o. CutsAt o c.self.inside.rest c.args.piece.now c.in_ok-cut.cut.whole c.cut.new.self in
    let Q : Deframing → Type 0 = λ d. HasRead d bytes packets in
    (fed_whole _ bytes packets c.args.piece.now c.in_ok-cut.cut.whole c.cut.new.self (subst Q (sym c.self.view_is) h) c.in-None.is (subst P c.in-None-broken.is c.in_ok-cut.ensures.cut), c.in-None.is, refl)

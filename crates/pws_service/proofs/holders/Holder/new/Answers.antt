use Rattle.std.proofs.Common.{◌≡◌, Bool, true, false}
use Rattle.pws_service.proofs.Led.{led_nothing}
use Rattle.pws_service.proofs.holders.Holder.new.Goals as goal

pub invariant_of-result : goal.invariant_of-result
invariant_of-result g c = record {
  fits = rw (c.new.ensures.me, c.new.ensures.layout) c.requires.fits;
  started = c.requires.fresh;
  fresh = λ h. (c.new-2.ensures, led_nothing c.new.result c.new.ensures.taken);
  going = λ h. let i : ◌≡◌ {A = Bool} false true = h in absurd (cc);
}

-- The sample sheet and the same one with a shorter watchdog.
use Rattle.std.proofs.Common.{refl, arith}
use Rattle.delays.specs.declared.Timer.TheVariants.{Watchdog}
use Rattle.delays.specs.Delays.{SettingsNoLower}
use Rattle.delays.proofs.Rising.{settings_decide}
use Rattle.order.specs.Generous.{Generous}
use Rattle.order.proofs.Ordering.{reflexive}
use Rattle.cases.specs.Sample.{sample, short_watchdog}

no_lower : SettingsNoLower 693 17077
no_lower = (settings_decide 693 17077).0 refl

-- all but the delays is as between the sample and itself
pub generous : Generous sample short_watchdog
generous =
    let g = reflexive sample in
    record {
      trip = g.trip;
      release = g.release;
      shutdown = g.shutdown;
      overdrop = g.overdrop;
      fulldrop = g.fulldrop;
      fullcurrent = g.fullcurrent;
      prequal = g.prequal;
      coldest = g.coldest;
      hysteresis = g.hysteresis;
      permanent = g.permanent;
      charging = g.charging;
      discharging = g.discharging;
      full = g.full;
      precharge = g.precharge;
      hottest = g.hottest;
      hot = g.hot;
      die = g.die;
      permhot = g.permhot;
      voltages = g.voltages;
      ratios = g.ratios;
      settings = no_lower;
      zones = λ d l h. let z = g.zones d l h in record { current = z.current; voltage = z.voltage; level = z.level };
      enabled = g.enabled;
    }

-- the sample's watchdog is set to 1, the other's to 0
pub not_back : Generous short_watchdog sample → ⊥
not_back g = absurd (omega (arith, g.settings Watchdog))

-- At least as generous is reflexive and transitive.
use Rattle.std.proofs.Common.{ℤ, ◌≤ℤ◌, le_trans, le_refl, arith}
use Rattle.std.proofs.lemmas.Int.{ints}
use Rattle.sheet.specs.declared.limits.Limits.{Limits}
use Rattle.order.specs.Generous.{Generous}
use Rattle.order.specs.Laws.{Ordered}

same : (z : ℤ) → z ≤ℤ z
same z = omega (arith, ints)

through : (x y z : ℤ) → x ≤ℤ y → y ≤ℤ z → x ≤ℤ z
through x y z h k = omega (arith, ints)

pub reflexive : (l : Limits) → Generous l l
reflexive l = record {
  trip = le_refl _;
  release = le_refl _;
  shutdown = le_refl _;
  overdrop = le_refl _;
  fulldrop = le_refl _;
  fullcurrent = le_refl _;
  prequal = le_refl _;
  coldest = same _;
  hysteresis = le_refl _;
  permanent = le_refl _;
  charging = le_refl _;
  discharging = le_refl _;
  full = le_refl _;
  precharge = le_refl _;
  hottest = same _;
  hot = same _;
  die = same _;
  permhot = same _;
  voltages = λ k h. le_refl _;
  ratios = λ k h. le_refl _;
  settings = λ t. le_refl _;
  zones = λ d l h. record { current = le_refl _; voltage = le_refl _; level = le_refl _ };
  enabled = λ k h e. e;
}

pub transitive : (b a c : Limits) → Generous b a → Generous a c → Generous b c
transitive b a c g h = record {
  trip = le_trans g.trip h.trip;
  release = le_trans g.release h.release;
  shutdown = le_trans g.shutdown h.shutdown;
  overdrop = le_trans g.overdrop h.overdrop;
  fulldrop = le_trans g.fulldrop h.fulldrop;
  fullcurrent = le_trans g.fullcurrent h.fullcurrent;
  prequal = le_trans g.prequal h.prequal;
  coldest = through _ _ _ g.coldest h.coldest;
  hysteresis = le_trans g.hysteresis h.hysteresis;
  permanent = le_trans h.permanent g.permanent;
  charging = le_trans h.charging g.charging;
  discharging = le_trans h.discharging g.discharging;
  full = le_trans h.full g.full;
  precharge = le_trans h.precharge g.precharge;
  hottest = through _ _ _ h.hottest g.hottest;
  hot = through _ _ _ h.hot g.hot;
  die = through _ _ _ h.die g.die;
  permhot = through _ _ _ h.permhot g.permhot;
  voltages = λ k l. le_trans (h.voltages k l) (g.voltages k l);
  ratios = λ k l. le_trans (h.ratios k l) (g.ratios k l);
  settings = λ t. le_trans (h.settings t) (g.settings t);
  zones = λ d l k.
      let x = g.zones d l k in
      let y = h.zones d l k in
      record { current = le_trans y.current x.current; voltage = le_trans y.voltage x.voltage; level = le_trans y.level x.level };
  enabled = λ k l e. h.enabled k l (g.enabled k l e);
}

pub ordered : (b a : Limits) → Ordered b a
ordered b a = record { reflexive = reflexive a; transitive = λ g e h. transitive b a e g h }

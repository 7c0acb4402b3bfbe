-- Whatever happens to the machine, its log and what was sent only grow.
use Rattle.std.proofs.Common.{List, [], ◌∷◌, refl, ◌∙◌, inr, arith}
use Rattle.fence_law.specs.State.{State, Event}
use Rattle.fence_law.specs.State.Event.{Asks, Grants, Refuses, GivesBack, Reports, Frees, StartsWrite, Sends, StartsRead, Repairs, Rebuilds}
use Rattle.fence_law.specs.Machine.{after, after_all}
use Rattle.fence_law.proofs.Words.{updated_other}
use Rattle.relation_law.specs.Frames.{LogGrows}

pub log_same : (s : State) → LogGrows s s
log_same s = record {
  count = omega arith;
  start = λ j l. refl;
  requests = λ r i. i;
  answers = λ a i. i;
  writes = λ m i. i;
}

pub log_more : (s t u : State) → LogGrows s t → LogGrows t u → LogGrows s u
log_more s t u a b = record {
  count = omega (arith, a.count, b.count);
  start = λ j l. b.start j (omega (arith, l, a.count)) ∙ a.start j l;
  requests = λ r i. b.requests r (a.requests r i);
  answers = λ x i. b.answers x (a.answers x i);
  writes = λ m i. b.writes m (a.writes m i);
}

log_after : (s : State) (e : Event) → LogGrows s (after s e)
log_after s (Asks c rw) = record {
  count = omega arith;
  start = λ j l. refl;
  requests = λ r i. inr i;
  answers = λ a i. i;
  writes = λ m i. i;
}
log_after s (GivesBack c g) = record {
  count = omega arith;
  start = λ j l. refl;
  requests = λ r i. inr i;
  answers = λ a i. i;
  writes = λ m i. i;
}
log_after s (Reports c g) = record {
  count = omega arith;
  start = λ j l. refl;
  requests = λ r i. inr i;
  answers = λ a i. i;
  writes = λ m i. i;
}
log_after s (Grants c number rw range extending) = record {
  count = omega arith;
  start = λ j l. refl;
  requests = λ r i. i;
  answers = λ a i. inr i;
  writes = λ m i. i;
}
log_after s (Refuses c kind) = record {
  count = omega arith;
  start = λ j l. refl;
  requests = λ r i. i;
  answers = λ a i. inr i;
  writes = λ m i. i;
}
log_after s (Frees c) = record {
  count = omega arith;
  start = λ j l. refl;
  requests = λ r i. i;
  answers = λ a i. inr i;
  writes = λ m i. i;
}
log_after s (Sends c k g j i v) = record {
  count = omega arith;
  start = λ j l. refl;
  requests = λ r x. x;
  answers = λ a x. x;
  writes = λ m x. inr x;
}
log_after s (StartsWrite c g i bytes touch hit seen past part) = record {
  count = omega arith;
  start = λ j l. updated_other s.start s.count _ j (λ x. omega (arith, l, x));
  requests = λ r x. x;
  answers = λ a x. x;
  writes = λ m x. x;
}
log_after s (StartsRead c g lo hi reach) = record {
  count = omega arith;
  start = λ j l. updated_other s.start s.count _ j (λ x. omega (arith, l, x));
  requests = λ r x. x;
  answers = λ a x. x;
  writes = λ m x. x;
}
log_after s (Repairs k cells e) = record {
  count = omega arith;
  start = λ j l. updated_other s.start s.count _ j (λ x. omega (arith, l, x));
  requests = λ r x. x;
  answers = λ a x. x;
  writes = λ m x. x;
}
log_after s (Rebuilds k cells) = record {
  count = omega arith;
  start = λ j l. updated_other s.start s.count _ j (λ x. omega (arith, l, x));
  requests = λ r x. x;
  answers = λ a x. x;
  writes = λ m x. x;
}
log_after s e = log_same s

-- The log and what was sent grow over each list of events.
pub log_grows : (s : State) (es : List Event) → LogGrows s (after_all s es)
log_grows s [] = log_same s
log_grows s (e ∷ es) = log_more s (after s e) (after_all (after s e) es) (log_after s e) (log_grows (after s e) es)

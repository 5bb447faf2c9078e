use Rattle.std.proofs.Common.{◌≡◌, ◌<◌, true, false, ◌++◌, ◌∷◌, [], ◌∙◌, refl, sym, ap, length}
use Rattle.std.proofs.lemmas.List.Elements.{All-push, All-same}
use Rattle.collections.specs.Matches.{fits_place}
use Rattle.collections.proofs.Picked.{filter_keep, filter_skip, picks_keep, picks_skip}
use Rattle.collections.proofs.finding.kept.Goals as goal

pub loop-path-preserved-in-Continue-1 : goal.loop-path-preserved-in-Continue-1
loop-path-preserved-in-Continue-1 c =
    record {
      within = All-same (λ p. p < length c.args.arena.now.forest.places) c.push.new.self (c.loop-path.kept ++ c.in-Some.path ∷ []) c.in_ok-push.ensures.ok
          (All-push (λ p. p < length c.args.arena.now.forest.places) c.loop-path.kept c.in-Some.path c.loop-path.invariant.within c.fits.ensures.within);
      picks = picks_keep c.loop-path.kept c.loop-path.yielded c.push.new.self (c.loop-path.yielded ++ c.in-Some.path ∷ []) c.in-Some.path c.loop-path.invariant.picks c.in_ok-push.ensures.ok refl;
      kept = filter_keep (fits_place c.args.arena.now c.args.pattern.now) c.loop-path.kept c.loop-path.yielded c.push.new.self c.in-Some.path c.loop-path.invariant.kept (sym c.fits.ensures.place ∙ c.if-fits.true) c.in_ok-push.ensures.ok;
      any = λ e. c.in_ok-push.ensures.ok ∙ ap (λ z. z ++ c.in-Some.path ∷ []) (c.loop-path.invariant.any e);
    }

pub loop-path-preserved : goal.loop-path-preserved
loop-path-preserved c =
    record {
      within = c.loop-path.invariant.within;
      picks = picks_skip c.loop-path.kept c.loop-path.yielded (c.loop-path.yielded ++ c.in-Some.path ∷ []) c.in-Some.path c.loop-path.invariant.picks refl;
      kept = filter_skip (fits_place c.args.arena.now c.args.pattern.now) c.loop-path.kept c.loop-path.yielded (c.loop-path.yielded ++ c.in-Some.path ∷ []) c.in-Some.path c.loop-path.invariant.kept (sym c.fits.ensures.place ∙ c.if-fits.false) refl;
      any = λ e. let h : true ≡ false = sym (c.fits.ensures.any e) ∙ c.if-fits.false in cc;
    }

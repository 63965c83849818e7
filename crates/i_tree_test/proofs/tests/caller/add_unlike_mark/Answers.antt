use Rattle.std.proofs.Common.{◌≢◌, Contains, Result, Ok, Err, OnOk, OnErr, inl, inr}
use Rattle.std.proofs.lemmas.List.Elements.{All-weaker, All-contains, All-contains_itself}
use Rattle.std.specs.declared.cmp.Ordering.{Ordering}
use Rattle.std.specs.declared.cmp.Ordering.TheVariants.{Equal}
use Rattle.i_tree.specs.LiveList.{LiveList, live_at, live_with, IsNewKey, IsInserted, IsAdvanced}
use Rattle.i_tree.specs.EntryLaws.{TimeKeepsTheLive, LiveInsertionAddsOne}
use Rattle.i_tree_test.proofs.tests.caller.add_unlike_mark.Goals as goal

module _ {K E V : Type 0} (cmp : E → E → Ordering) (expires : K → E) (order : K → K → Ordering) (time : E) (mark : K) (entry : K × V) (old new : LiveList K E V) (apart : order entry.0 mark ≢ Equal) (unlike : IsNewKey order mark old.entries) where
  unlike_live : TimeKeepsTheLive K E V → IsNewKey order mark (live_at cmp expires time old.entries)
  unlike_live law =
      All-weaker (Contains (live_at cmp expires time old.entries)) (λ e. order e.0 mark ≢ Equal) (λ e h. All-contains (λ e. order e.0 mark ≢ Equal) old.entries e unlike ((law cmp expires time old.entries e).0 h).0) _ (All-contains_itself _)

  unlike_both : LiveInsertionAddsOne K E V → IsNewKey order mark (live_with cmp expires order entry time old.entries)
  unlike_both law =
      All-weaker (Contains (live_with cmp expires order entry time old.entries)) (λ e. order e.0 mark ≢ Equal) (λ e h. elim ((law cmp expires order entry time old.entries e).0 h).0 [ inl same ↦ rw same apart | inr was ↦ All-contains (λ e. order e.0 mark ≢ Equal) old.entries e unlike was ]) _ (All-contains_itself _)

  either : {A B : Type 0} (r : Result A B) → TimeKeepsTheLive K E V → LiveInsertionAddsOne K E V
      → OnOk r (IsInserted cmp expires order entry time old new) → OnErr r (IsAdvanced cmp expires time old new) → IsNewKey order mark new.entries
  either (Ok x) live both ok err = rw ok.entries (unlike_both both)
  either (Err x) live both ok err = rw err.entries (unlike_live live)

pub returns : goal.returns
returns g c =
    either g.E.Ord.cmp g.K.ExpiredKey.expires g.K.ExpiredKey.order c.args.time c.args.mark _ _ _ c.requires.apart c.requires.unlike c.insert.result
    c.entries_are_new_or_old.ensures.live c.entries_are_new_or_old.ensures.both c.insert.ensures.ok c.insert.ensures.err

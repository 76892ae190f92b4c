use Rattle.image_builder.proofs.Names.{rules, List, length, ap, subst, sym, Geometry, frames_in, LeavesOnly, Entry, IsDirectory, Encodes, Plan, SavedFrames}
use Rattle.image_builder.proofs.Names.{kept_of, new_plan, IsLeftWriting, saved_by, numbered, EndInZeros, SavedState, row, Row, version_in}
use Rattle.std.proofs.Common.{◌≡◌, ◌∙◌}
use Rattle.image_builder.proofs.Upgrades.{directory_count, directory_fits, same_state}
use Rattle.image_builder.proofs.upgrading.write_over.Goals as goal

pub write_saved-requires-clause-directory : goal.write_saved-requires-clause-directory
write_saved-requires-clause-directory g c =
    let s = saved_by g.D.Device.disk c.args.saved.now in
    let laid : c.lay_out-superblock.result ≡ new_plan c.args.layout s.plan = search rules in
    let entries : c.args.entries.now ≡ numbered 0 s.directory = c.requires.entries in
    subst (λ (geometry : Geometry). IsDirectory geometry c.args.entries.now) (sym (ap (λ (p : Plan). p.geometry) laid))
    (subst (λ (es : List Entry). IsDirectory s.plan.geometry es) (sym entries)
    (directory_fits c.requires.encoded.0 c.requires.encoded.1 s c.requires.encoded.2))

pub write_saved-requires-clause-count : goal.write_saved-requires-clause-count
write_saved-requires-clause-count g c =
    let s = saved_by g.D.Device.disk c.args.saved.now in
    let entries : c.args.entries.now ≡ numbered 0 s.directory = c.requires.entries in
    let count : c.saved-checkpoint.result.entries ≡ s.header.entries = search rules in
    ap length entries ∙ directory_count c.requires.encoded.0 c.requires.encoded.1 s c.requires.encoded.2 ∙ sym count

pub returns-in-Ok : goal.returns-in-Ok
returns-in-Ok g c =
    let s = saved_by g.D.Device.disk c.args.saved.now in
    let laid : c.lay_out-superblock.result ≡ new_plan c.args.layout s.plan = search rules in
    let entries : c.args.entries.now ≡ numbered 0 s.directory = c.requires.entries in
    let sequence : c.row.result.first_sequence ≡ (row (version_in c.args.layout s.plan)).first_sequence =
    ap (λ (r : Row). r.first_sequence) (c.row.ensures.value ∙ ap row (c.version.ensures.value ∙ ap (λ (p : Plan). p.version) laid)) in
    let generation : c.saved-checkpoint.result.generation ≡ s.header.generation = search rules in
    let count : c.saved-checkpoint.result.entries ≡ s.header.entries = search rules in
    let age : c.saved-checkpoint.result.age ≡ s.header.age = search rules in
    let frames : frames_in c.args.headers.now c.args.contents.now ≡ s.frames = c.requires.frames in
    let same = same_state c.args.layout s _ _ _ _ _ _ _ laid sequence generation count age entries frames in
    record {
      total = search rules;
      encodes = subst (Encodes (g.E.Device.disk c.write_saved.new.device).seen (g.E.Device.disk c.write_saved.new.device).sectors) same
          c.in-Ok.ensures.denotes;
      crash = λ x left. subst (Encodes x (g.E.Device.disk c.write_saved.new.device).sectors) same (c.in-Ok.ensures.crash x left);
      zeros = λ x left. subst (λ (state : SavedState). EndInZeros state.plan state.header.generation state.directory x) same
          (c.in-Ok.ensures.zeros x left);
      elsewhere = search rules;
      small = search rules;
      opened = search rules;
      untouched = search rules;
      any_moment = subst (λ (saved : SavedFrames). LeavesOnly (g.E.Device.disk c.args.new.now) (g.E.Device.disk c.write_saved.new.device)
          (λ x. IsLeftWriting (g.E.Device.disk c.args.new.now) saved x)) (ap kept_of same) c.write_saved.ensures.any_moment;
      size = search rules;
      later = search rules;
      cause = search rules;
    }

pub returns-in-Err : goal.returns-in-Err
returns-in-Err g c =
    let s = saved_by g.D.Device.disk c.args.saved.now in
    let laid : c.lay_out-superblock.result ≡ new_plan c.args.layout s.plan = search rules in
    let entries : c.args.entries.now ≡ numbered 0 s.directory = c.requires.entries in
    let sequence : c.row.result.first_sequence ≡ (row (version_in c.args.layout s.plan)).first_sequence =
    ap (λ (r : Row). r.first_sequence) (c.row.ensures.value ∙ ap row (c.version.ensures.value ∙ ap (λ (p : Plan). p.version) laid)) in
    let generation : c.saved-checkpoint.result.generation ≡ s.header.generation = search rules in
    let count : c.saved-checkpoint.result.entries ≡ s.header.entries = search rules in
    let age : c.saved-checkpoint.result.age ≡ s.header.age = search rules in
    let frames : frames_in c.args.headers.now c.args.contents.now ≡ s.frames = c.requires.frames in
    record {
      total = search rules;
      encodes = search rules;
      crash = search rules;
      zeros = search rules;
      elsewhere = search rules;
      small = search rules;
      opened = search rules;
      untouched = search rules;
      any_moment = subst (λ (saved : SavedFrames). LeavesOnly (g.E.Device.disk c.args.new.now) (g.E.Device.disk c.write_saved.new.device)
          (λ x. IsLeftWriting (g.E.Device.disk c.args.new.now) saved x))
          (ap kept_of (same_state c.args.layout s _ _ _ _ _ _ _ laid sequence generation count age entries frames))
          c.write_saved.ensures.any_moment;
      size = search rules;
      later = search rules;
      cause = search rules;
    }

use Rattle.std.proofs.Common.{◌≡◌, fold, take}
use Rattle.zq_dispatcher.specs.Owns.{with_folder}
use Rattle.zq_dispatcher.proofs.owns.put_folders.Given as goal

abbrev pub invariant-loop-folder : goal.invariant-loop-folder
invariant-loop-folder l = l.owns.entries ≡ fold with_folder l.initial.owns.entries (take l.folder-index l.folders)

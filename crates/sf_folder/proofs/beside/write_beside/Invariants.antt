use Rattle.sf_folder.proofs.beside.write_beside.Given as goal

abbrev pub ghosts-write_within : goal.ghosts-write_within
ghosts-write_within g a = record { known = g.F.Folder.calls a.folder.now; place = a.folder.ghost_name }

mod Lits

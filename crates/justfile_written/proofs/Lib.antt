mod Lasts
